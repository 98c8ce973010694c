-- `bench_calls::stream`: the symbols so far are fed, and the others are ahead. Assumes nothing.
use lib.ListN.{length}
use Rattle.bench_calls.proofs.Streamed.{Turning}
use Rattle.bench_calls.proofs.stream.Given as goal

abbrev pub invariant-loop-symbol : goal.invariant-loop-symbol
invariant-loop-symbol l =
    Turning l.soft l.initial.out (length l.yielded) l.d l.out l.written l.symbol-iterator.rest.now l.symbol-iterator.size
