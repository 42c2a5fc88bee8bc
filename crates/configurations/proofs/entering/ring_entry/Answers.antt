use Rattle.std.proofs.Common.{◌≡◌, sym, ◌∙◌, length, true, rules, tests}
use Rattle.spec.specs.Outcome.{member}
use Rattle.rosters.specs.Finding.{member_is}
use Rattle.configurations.specs.Entering.{ring_none, ring_found}
use Rattle.configurations.proofs.entering.ring_entry.Goals.{else-behind-via-then-behind+then-not-is_empty+else-not-contains, else-behind-via-then-behind+else-not-is_empty, else-behind-via-else-behind}
use Rattle.configurations.proofs.entering.ring_entry.Goals as goal

pub returns-then-not-contains : goal.returns-then-not-contains
returns-then-not-contains c =
    let l = c.args.list.now in
    let z : length l ≡ 0 → ⊥ = search (rules, tests) in
    ring_none l c.args.behind z (sym (member_is l c.args.behind) ∙ sym c.contains.ensures.value ∙ c.if-not-contains.true)

pub returns : goal.returns
returns c =
    let l = c.args.list.now in
    let m : c.args.behind ≡ 255 → (length l ≡ 0 → ⊥) → member c.args.behind l ≡ true = elim c.else-behind.branch [
      | else-behind-via-then-behind+then-not-is_empty+else-not-contains w ↦ λ e z. sym (member_is l c.args.behind) ∙ sym w.contains.ensures.value ∙ w.if-not-contains.false
      | else-behind-via-then-behind+else-not-is_empty w ↦ λ e z. absurd (z (search (rules, tests)))
      | else-behind-via-else-behind w ↦ λ e z. absurd (w.if-behind.false e)
    ] in
    ring_found l c.args.behind _ m c.entry_index.ensures
