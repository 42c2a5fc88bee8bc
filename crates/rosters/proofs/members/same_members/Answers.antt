use Rattle.std.proofs.Common.{ap₂, sym, ◌∙◌, eqb, arith}
use Rattle.rosters.specs.Members.{all_is, members_other, members_not, members_same, small, words_same}
use Rattle.rosters.proofs.members.same_members.Goals as goal

pub returns-then-list-other : goal.returns-then-list-other
returns-then-list-other c = members_other c.args.list.now c.args.other.now c.if-list-other.true

pub returns-then-h-lt64 : goal.returns-then-h-lt64
returns-then-h-lt64 c =
    let l = c.args.list.now in
    let o = c.args.other.now in
    ap₂ eqb c.marks_of.ensures c.marks_of-then-h-lt64.ensures
    ∙ words_same l o (small l (omega (arith, c.highest.ensures, c.max-h.ensures, c.if-h-lt64.true))) (small o (omega (arith, c.highest-2.ensures, c.max-h.ensures, c.if-h-lt64.true))) c.if-list-other.false

pub returns-then-all_in : goal.returns-then-all_in
returns-then-all_in c =
    let l = c.args.list.now in
    let o = c.args.other.now in
    c.all_in-then-all_in.ensures ∙ all_is l o ∙ members_same l o c.if-list-other.false (sym c.if-all_in.true ∙ c.all_in.ensures ∙ all_is o l)

pub returns-else-all_in : goal.returns-else-all_in
returns-else-all_in c =
    let l = c.args.list.now in
    let o = c.args.other.now in
    c.if-all_in.false ∙ members_not l o c.if-list-other.false (sym c.if-all_in.false ∙ c.all_in.ensures ∙ all_is o l)
