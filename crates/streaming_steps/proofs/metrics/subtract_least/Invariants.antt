-- `streaming_steps::metrics::subtract_least`: the laws of a turn at what is known there. Assumes nothing.
use Rattle.streaming_steps.proofs.Normal.{Lowering}
use Rattle.streaming_steps.proofs.metrics.subtract_least.Given as goal

abbrev pub invariant-loop-m : goal.invariant-loop-m
invariant-loop-m l = Lowering l.initial.m-items l.least l.m-index l.m-items
