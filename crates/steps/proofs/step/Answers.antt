-- `steps::step`: the laws of a turn at what is known there. Assumes nothing.
use Prim.Native.Nat.{◌+◌, ◌*◌}
use native.Mathlib.Omega.{arith}
use Rattle.best_path.proofs.Survivors.{any-default}
use Rattle.trellis.proofs.States.{states_two_halves}
use Rattle.steps.proofs.Turn.{room_held, turns_held_start, turns_held_go_on, turns_held_end}
use Rattle.steps.proofs.step.Goals as goal

pub loop-n-init : goal.loop-n-init
loop-n-init g c = turns_held_start g.D.Decoder.held

pub turn-w-requires : goal.turn-w-requires
turn-w-requires g c =
    let ready = c.requires in
    let crossed = ready.shaped.crossed in
    let states = states_two_halves c.args.code crossed.some in
    let below = c.loop-n-test.true in
    record {
      state = omega (arith, below, c.loop-n.invariant.turns.paired.counter, crossed.few);
      first = ready.first;
      second = ready.second;
      even = room_held _ ready.roomy (omega (arith, below, states, crossed.halved)) (omega (arith, below, crossed.few));
      odd = room_held _ ready.roomy (omega (arith, below, states, crossed.halved)) (omega (arith, below, crossed.few));
    }

pub loop-n-preserved : goal.loop-n-preserved
loop-n-preserved g c =
    turns_held_go_on c.loop-n.invariant g.met.D.Decoder.sound.lawful c.loop-n-test.true (omega arith)
    (any-default c.args.pm.now (2 * c.loop-n.n) _ _ (omega (arith, c.loop-n-test.true, c.requires.shaped.crossed.few)))
    (any-default c.args.pm.now (2 * c.loop-n.n + 1) _ _ (omega (arith, c.loop-n-test.true, c.requires.shaped.crossed.few)))
    c.turn-w.ensures (search) (search)

pub shape_of-row : goal.shape_of-row
shape_of-row g c = c.loop-n.invariant.turns.paired.size

pub returns : goal.returns
returns g c =
    let ready = c.requires.shaped in
    turns_held_end c.loop-n.invariant c.loop-n-test.false ready.crossed (omega arith) ready.room
