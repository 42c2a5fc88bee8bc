use Rattle.std.proofs.Common.{◌≡◌, ◌≢◌, ℕ, length, refl, sym, arith}
use Rattle.std.specs.Option.{MatchOption}
use mathlib.Core.Path.{subst}
use Rattle.spec.specs.State.{arrangement_of}
use Rattle.motion.specs.Across.{arrangement_length}
use Rattle.walking.specs.Kinds.{round_near, round_far}
use Rattle.leeway.proofs.reach.behind_round.Goals as goal

pub returns-in-Some : goal.returns-in-Some
returns-in-Some g c = let f = c.in-Some.ensures in (sym (round_near _ _ _ (sym f.0) f.1), f.1)

pub returns : goal.returns
returns g c =
    let a = c.args in
    let x = round_far (arrangement_of a.state.now a.zone.now) _ 255 (sym c.in_default.ensures) (length a.zone.now) _ (omega (arith, arrangement_length a.state.now a.zone.now)) refl refl in
    subst (λ (x : ℕ). MatchOption c.behind-2.result (x ≡ 255) (λ r. (x ≡ r.0) × (r.0 ≢ 255))) x c.behind-2.ensures
