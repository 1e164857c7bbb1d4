use Rattle.watch_frames.proofs.FrameSteps.{frame_legal, counts_rise, last_count}
use Rattle.watch_frames.proofs.laws.law_frames.Goals as goal

pub returns : goal.returns
returns c = record {
  legal = λ sys places counts i are below. frame_legal sys places counts are i below;
  rise = λ sys places counts i are below. counts_rise sys places counts are i below;
  last = λ sys places counts i are one. last_count sys places counts are i one;
}
