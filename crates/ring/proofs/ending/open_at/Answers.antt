use Rattle.std.proofs.Common.{◌++◌, ap₂, ◌∙◌}
use mathlib.Core.List.{List}
use Prim.Native.Nat.{ℕ}
use Rattle.ring.specs.Ending.{opened_joined}
use Rattle.ring.proofs.ending.open_at.Goals as goal

pub returns : goal.returns
returns c = ap₂ (λ (x y : List ℕ). x ++ y) c.copy_from_slice.ensures.after c.copy_from_slice-2.ensures.after ∙ opened_joined c.args.zone.now c.args.j c.requires.0
