-- `of`: the kind that has the number, or a hall.
use Prim.Native.Nat.{ℕ}
use mathlib.Core.Path.{◌≡◌, ap, sym, ◌∙◌}
use Rattle.std.proofs.Common.{Result, Ok, Err}
use Rattle.std.specs.Result.{result_unwrap_or}
use Rattle.numbering.specs.declared.ZoneKind.{ZoneKind}
use Rattle.numbering.specs.declared.ZoneKind.TheVariants.{Stack, Hall, Clique, Ring}
use Rattle.numbering.specs.declared.NoKind.{NoKind}
use Rattle.numbering.specs.Kind.{goes_as, Decodes, goes_itself, goes_hall}
use Rattle.numbering.proofs.ZoneKind.of.Goals as goal

decoded : (n : ℕ) (r : Result ZoneKind NoKind) → Decodes n r → result_unwrap_or r Hall ≡ goes_as n
decoded n (Ok kind) d = sym (goes_itself kind) ∙ ap goes_as d
decoded n (Err e) d = sym (goes_hall n (λ q. d.1 Stack (sym q)) (λ q. d.1 Clique (sym q)) (λ q. d.1 Ring (sym q)))

pub returns : goal.returns
returns c = c.unwrap_or.ensures ∙ decoded c.args.n c.try_from.result c.try_from.ensures
