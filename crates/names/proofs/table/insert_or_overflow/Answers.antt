use Rattle.names.proofs.Words.{◌≡◌, ◌≢◌, ◌∙◌, ap, sym, subst, arith, get_or, ℕ, ◌+◌, List, Some, slice_set, get_or_read, AreBytes, code_in_overflow, IsFirstFreeSlot, AreReachable, AreNameKeys, OverflowGrows}
use Rattle.names.proofs.TableLemmas.{put-reachable}
use Rattle.names.proofs.NameKeyLemmas.{either, on-ok, reachable-passed, name_keys-overflow, name_keys-failed, grows-overflow, reachable-overflow}
use Rattle.names.proofs.table.insert_or_overflow.Goals as goal

pub returns-then-key-eq-IN_OVERFLOW-clause-reachable : goal.returns-then-key-eq-IN_OVERFLOW-clause-reachable
returns-then-key-eq-IN_OVERFLOW-clause-reachable c =
    let a = c.args.name_keys.now in
    let n = c.args.code in
    let t = (c.requires.name_keys n c.requires.code).there in
    reachable-passed c.args.slots.now.items a c.args.name_list.now n (sym (get_or_read a.keys.items n c.index-key.result.now t c.index-key.ensures 0) ∙ c.if-key-eq-IN_OVERFLOW.true) c.requires.reachable

pub returns-in-Some-clause-reachable : goal.returns-in-Some-clause-reachable
returns-in-Some-clause-reachable c =
    let a = c.args.name_keys.now in
    let n = c.args.code in
    let key = c.index-key.result.now in
    let k = c.requires.name_keys n c.requires.code in
    let is : key ≡ get_or a.keys.items n 0 = get_or_read a.keys.items n key k.there c.index-key.ensures 0 in
    let lt = c.requires.code in
    let few = c.requires.few in
    let free : IsFirstFreeSlot c.args.slots.now.items key c.in-Some.at = subst (λ s. IsFirstFreeSlot s key c.in-Some.at) c.as_slice.ensures.value c.in-Some.ensures in
    subst (λ s. AreReachable (n + 1) (slice_set c.args.slots.now.items c.in-Some.at s) a c.args.name_list.now) (sym c.make_slot.ensures)
    (put-reachable c.args.slots.now.items a c.args.name_list.now key c.in-Some.at n (is ∙ k.key (λ z. c.if-key-eq-IN_OVERFLOW.false (is ∙ z))) (omega (arith, lt, few)) c.requires.reachable free)

pub returns-in-None-clause-name_keys : goal.returns-in-None-clause-name_keys
returns-in-None-clause-name_keys c =
    let a = c.args.name_keys.now in
    let b = c.put_in_overflow.new.self in
    let names = c.args.name_list.now in
    let n = c.args.code in
    let key = c.index-key.result.now in
    let k = c.requires.name_keys n c.requires.code in
    let is : key ≡ get_or a.keys.items n 0 = get_or_read a.keys.items n key k.there c.index-key.ensures 0 in
    let e = c.put_in_overflow.ensures in
    let others = subst (λ y. (x : List ℕ) → AreBytes x → x ≢ y → code_in_overflow b.overflow x ≡ code_in_overflow a.overflow x) c.get.ensures e.others in
    either c.put_in_overflow.result _ _ _ e.keys e.inserted e.err (AreNameKeys b names)
    (λ keys own. name_keys-overflow a b names n c.requires.name_keys c.requires.distinct c.requires.code keys (subst (λ y. code_in_overflow b.overflow y ≡ Some n) c.get.ensures own) others)
    (λ same. name_keys-failed a b names n c.requires.name_keys c.requires.distinct c.requires.code (λ z. c.if-key-eq-IN_OVERFLOW.false (is ∙ z)) (ap (λ v. v.items) same) others)

pub returns-in-None-clause-reachable : goal.returns-in-None-clause-reachable
returns-in-None-clause-reachable c =
    let n = c.args.code in
    let k = c.requires.name_keys n c.requires.code in
    on-ok c.put_in_overflow.result _ _ c.put_in_overflow.ensures.keys (λ keys. reachable-overflow c.args.slots.now.items c.args.name_keys.now c.put_in_overflow.new.self c.args.name_list.now n keys k.there c.requires.reachable)

pub returns-in-None-clause-overflow_grows : goal.returns-in-None-clause-overflow_grows
returns-in-None-clause-overflow_grows c =
    let a = c.args.name_keys.now in
    let b = c.put_in_overflow.new.self in
    let n = c.args.code in
    let k = c.requires.name_keys n c.requires.code in
    let e = c.put_in_overflow.ensures in
    either c.put_in_overflow.result _ _ _ e.keys e.inserted e.err (OverflowGrows a b)
    (λ keys own. grows-overflow a b n keys k.there)
    (λ same j ne z. ne (ap (λ v. get_or v.items j 0) same ∙ z))
