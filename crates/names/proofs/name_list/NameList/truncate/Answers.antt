use Rattle.names.proofs.Words.{◌≡◌, ◌∙◌, ap, sym, subst, arith, length, take, length-take-le, take_all, ◌<◌, names_from, start_of, AreAscendingEnds}
use Rattle.names.proofs.NameListLemmas.{names_from-length, start-within, names_from-take, ascending-take}
use Rattle.names.proofs.name_list.NameList.truncate.Goals as goal
use Rattle.names.proofs.name_list.NameList.truncate.Goals.{After-truncate-then-len}

from-is : (c : After-truncate-then-len) → c.start-from.result ≡ start_of 0 c.self.inside.ends.items c.args.len
from-is c = c.start-from.ensures ∙ ap (λ xs. start_of 0 xs c.args.len) c.as_slice.ensures.value

within : (c : After-truncate-then-len) → c.args.len < length c.self.inside.ends.items
within c = let h = c.if-len.true in let l = c.len.ensures in omega (arith, h, l)

pub returns-then-len : goal.returns-then-len
returns-then-len c =
    ap (λ xs. names_from xs 0 c.truncate-then-len.new.self.items) c.truncate.ensures.items
    ∙ (ap (names_from (take c.start-from.result c.self.inside.bytes.items) 0) c.truncate-then-len.ensures.items
    ∙ (ap (λ n. names_from (take n c.self.inside.bytes.items) 0 (take c.args.len c.self.inside.ends.items)) (from-is c)
    ∙ (names_from-take c.self.inside.bytes.items 0 c.self.inside.ends.items c.args.len (within c) c.self.invariant
    ∙ ap (take c.args.len) c.self.view_is)))

pub invariant_of-self : goal.invariant_of-self
invariant_of-self c =
    let from = start_of 0 c.self.inside.ends.items c.args.len in
    let inside = start-within (length c.self.inside.bytes.items) 0 c.self.inside.ends.items c.args.len c.self.invariant in
    let size : length c.truncate.new.self.items ≡ from = ap length (c.truncate.ensures.items ∙ ap (λ n. take n c.self.inside.bytes.items) (from-is c)) ∙ length-take-le from c.self.inside.bytes.items inside in
    subst (λ n. AreAscendingEnds n 0 c.truncate-then-len.new.self.items) (sym size)
    (subst (AreAscendingEnds from 0) (sym c.truncate-then-len.ensures.items)
    (ascending-take (length c.self.inside.bytes.items) 0 c.self.inside.ends.items c.args.len (within c) c.self.invariant))

pub returns-else-len : goal.returns-else-len
returns-else-len c =
    let l = names_from-length c.self.inside.bytes.items 0 c.self.inside.ends.items in
    let h = c.if-len.false in
    sym (take_all c.args.len c.args.self.now (omega (arith, h, l, c.len.ensures, ap length c.self.view_is)))
