-- The parts of a frame stand one behind the other, after a head of 21 bytes.
use Rattle.std.specs.Prelude.{◌≤◌}
use Rattle.test_text.specs.declared.frames.Frame.{Frame}

pub record InOrder (f : Frame) : Type 0 where
  pub curve : 21 ≤ f.first
  pub first : f.first ≤ f.second
  pub second : f.second ≤ f.total
  pub total : f.total ≤ f.end
