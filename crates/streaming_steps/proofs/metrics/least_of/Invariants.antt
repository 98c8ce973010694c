-- `streaming_steps::metrics::least_of`: the laws of a turn at what is known there. Assumes nothing.
use Rattle.streaming_steps.proofs.Normal.{LeastBelow}
use Rattle.streaming_steps.proofs.metrics.least_of.Given as goal

abbrev pub invariant-loop-m : goal.invariant-loop-m
invariant-loop-m l = LeastBelow l.pm l.m-index l.least
