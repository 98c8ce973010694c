-- `bench_calls::stream`: refused for a short output, or the laws of a turn at what is known there. Assumes nothing.
use native.Mathlib.Omega.{arith}
use borrow.Author.Rules.{rules}
use lib.ListN.{length-append}
use Rattle.bench_calls.proofs.Streamed.{streaming_starts, streaming_inside, streaming_ends, ahead_starts, ahead_inside}
use Rattle.bench_calls.proofs.Streamed.{ahead_ends, symbol_fed, stream_refused}
use Rattle.bench_calls.proofs.stream.Goals as goal

pub returns-then-out-count : goal.returns-then-out-count
returns-then-out-count c = stream_refused _ (omega arith)

pub loop-symbol-init : goal.loop-symbol-init
loop-symbol-init c =
    record {
      fed = streaming_starts c.new-d.ensures (omega arith);
      ahead = ahead_starts (search rules) (search rules);
    }

pub put_bit-written-requires : goal.put_bit-written-requires
put_bit-written-requires c =
    let (_, (cut, pair), _) = c.in-Some.ensures.steps in
    streaming_inside c.loop-symbol.invariant.fed (ahead_inside c.loop-symbol.invariant.ahead _ _ cut pair)

pub loop-symbol-preserved : goal.loop-symbol-preserved
loop-symbol-preserved c =
    let (same, (cut, pair), _) = c.in-Some.ensures.steps in
    symbol_fed _ _ c.loop-symbol.invariant cut pair same c.feed_symbol-fed.ensures c.put_bit-written.ensures
    (length-append c.loop-symbol.yielded _)

pub returns : goal.returns
returns c =
    streaming_ends c.loop-symbol.invariant.fed (ahead_ends c.loop-symbol.invariant.ahead (search rules))
