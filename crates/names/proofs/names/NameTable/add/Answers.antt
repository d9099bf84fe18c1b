use Rattle.names.proofs.Words.{◌≡◌, ◌∙◌, ap, sym, subst, ◌<◌, slice_set, rules, false, refl, has_name, NO_NAME, name_at, code_in_overflow, IsFirstFreeSlot}
use Rattle.names.proofs.NameKeyLemmas.{none-is}
use Rattle.names.proofs.PutLemmas.{Holds, names-same, names-put, names-put_in_overflow}
use Rattle.names.proofs.names.NameTable.add.Goals as goal

pub invariant_of-self : goal.invariant_of-self
invariant_of-self c =
    let a = c.self.inside.name_keys in
    let e = c.push.ensures in
    names-same c.self.inside.slots.items a c.push.new.self c.self.inside.name_list c.self.inside.name_list c.len-code.result refl c.self.invariant c.len-code.ensures e.count e.same
    (λ k p. ap (λ o. code_in_overflow o (name_at c.self.inside.name_list k)) e.overflow)

pub invariant_of-self-in_err-push-in-Some-2 : goal.invariant_of-self-in_err-push-in-Some-2
invariant_of-self-in_err-push-in-Some-2 c =
    let a = c.self.inside.name_keys in
    let e = c.push.ensures in
    names-same c.self.inside.slots.items a c.push.new.self c.self.inside.name_list c.push-in-Some.new.self c.len-code.result c.in_err-push-in-Some-2.ensures.err c.self.invariant c.len-code.ensures e.count e.same
    (λ k p. ap (λ o. code_in_overflow o (name_at c.self.inside.name_list k)) e.overflow)

pub invariant_of-self-in-Some : goal.invariant_of-self-in-Some
invariant_of-self-in-Some c =
    let slots = c.self.inside.slots.items in
    let key = c.key-key in
    let e = c.in_ok-push-in-Some.ensures in
    let n = c.len-code.result in
    let few : n < NO_NAME = search rules in
    let fresh : has_name c.args.name.now c.self.inside.name_list ≡ false = ap (has_name c.args.name.now) (c.self.view_is ∙ c.in_ok-make_room.ensures) ∙ c.requires in
    let free : IsFirstFreeSlot slots key.result c.in-Some.at = subst (λ s. IsFirstFreeSlot s key.result c.in-Some.at) c.as_slice.ensures.value c.in-Some.ensures in
    subst (λ s. Holds (slice_set slots c.in-Some.at s) c.push.new.self c.push-in-Some.new.self) (sym c.make_slot.ensures)
    (names-put slots c.self.inside.name_keys c.push.new.self c.self.inside.name_list c.push-in-Some.new.self c.args.name.now n key.result c.in-Some.at c.in_ok-push-in-Some-2.ensures.ok c.self.invariant c.len-code.ensures few fresh
    e.overflow e.same e.more e.last key.ensures.key key.ensures.not_overflow key.ensures.bytes free)

pub invariant_of-self-in_err-push-in-None : goal.invariant_of-self-in_err-push-in-None
invariant_of-self-in_err-push-in-None c =
    let a = c.self.inside.name_keys in
    let e = c.push-in-None.ensures in
    names-same c.self.inside.slots.items a c.push-in-None.new.self c.self.inside.name_list c.self.inside.name_list c.len-code.result refl c.self.invariant c.len-code.ensures e.count e.same
    (λ k p. ap (λ o. code_in_overflow o (name_at c.self.inside.name_list k)) e.overflow)

pub invariant_of-self-in_err-insert-in-None : goal.invariant_of-self-in_err-insert-in-None
invariant_of-self-in_err-insert-in-None c =
    let e = c.push-in-None.ensures in
    let names = c.self.inside.name_list in
    let fresh : has_name c.args.name.now names ≡ false = ap (has_name c.args.name.now) (c.self.view_is ∙ c.in_ok-make_room.ensures) ∙ c.requires in
    names-same c.self.inside.slots.items c.self.inside.name_keys (record { keys = c.push-in-None.new.self.keys; overflow = c.insert.new.self }) names names c.len-code.result refl c.self.invariant c.len-code.ensures e.count e.same
    (λ k p. c.insert.ensures.others (name_at names k) (c.self.invariant.1.1.name_keys k p).bytes (none-is names c.args.name.now k fresh p) ∙ ap (λ o. code_in_overflow o (name_at names k)) e.overflow)

pub invariant_of-self-in-Continue-branch-6 : goal.invariant_of-self-in-Continue-branch-6
invariant_of-self-in-Continue-branch-6 c =
    let e = c.in_ok-push-in-None.ensures in
    let n = c.len-code.result in
    let few : n < NO_NAME = search rules in
    let fresh : has_name c.args.name.now c.self.inside.name_list ≡ false = ap (has_name c.args.name.now) (c.self.view_is ∙ c.in_ok-make_room.ensures) ∙ c.requires in
    names-put_in_overflow c.self.inside.slots.items c.self.inside.name_keys (record { keys = c.push-in-None.new.self.keys; overflow = c.insert.new.self }) c.self.inside.name_list c.push-in-None-2.new.self c.args.name.now n
    c.in_ok-push-in-None-2.ensures.ok c.self.invariant c.len-code.ensures few fresh (λ y bytes ne. c.insert.ensures.others y bytes ne ∙ ap (λ o. code_in_overflow o y) e.overflow) e.same e.more e.last c.in_ok-insert-in-None.ensures.inserted c.key-key.ensures.bytes

pub invariant_of-self-in_err-push-in-None-2 : goal.invariant_of-self-in_err-push-in-None-2
invariant_of-self-in_err-push-in-None-2 c =
    let e = c.push-in-None.ensures in
    let names = c.self.inside.name_list in
    let fresh : has_name c.args.name.now names ≡ false = ap (has_name c.args.name.now) (c.self.view_is ∙ c.in_ok-make_room.ensures) ∙ c.requires in
    names-same c.self.inside.slots.items c.self.inside.name_keys (record { keys = c.push-in-None.new.self.keys; overflow = c.insert.new.self }) names c.push-in-None-2.new.self c.len-code.result c.in_err-push-in-None-2.ensures.err c.self.invariant c.len-code.ensures
    e.count e.same (λ k p. c.insert.ensures.others (name_at names k) (c.self.invariant.1.1.name_keys k p).bytes (none-is names c.args.name.now k fresh p) ∙ ap (λ o. code_in_overflow o (name_at names k)) e.overflow)
