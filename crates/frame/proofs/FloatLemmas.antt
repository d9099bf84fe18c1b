-- The `$f` of a symbol, as statements are appended or removed.
use Rattle.frame.proofs.Words.{◌≡◌, ◌∙◌, ap, sym, subst, arith, add-zero, append-nil, cases_Bool, inl, inr, refl, ℕ, zero, suc, ◌+◌, ◌<◌, ◌≤◌, ◌&&◌, Bool, true, false, cond, nat_eq, nat_le, nat_lt, List, [], ◌∷◌, ◌++◌, length, take, take_all, get_or, slice_get, Some, true≢false, Entry, Kind, Float, Mention, AreFloatsOf, AreKeptUntil, AreWith, IsLastFloat, IsUntil, KeepsUntil, float_mention, floats_from, is_float_kind, is_float_with, kept_until, mentions_of, place, second_is, cases_lt}
use Rattle.entries.specs.Mentions.{before}

-- ---- the mentions after one more entry, and of the first ones

pub floats-push : (c at : ℕ) (es : List Entry) (e : Entry) → floats_from c at (es ++ e ∷ []) ≡ floats_from c at es ++ cond (is_float_with c e) (float_mention (at + length es) ∷ []) []
floats-push c at [] e = ap (λ n. cond (is_float_with c e) (float_mention n ∷ []) []) (sym (add-zero at))
floats-push c at (d ∷ es) e =
    let last = λ (n : ℕ). cond (is_float_with c e) (float_mention n ∷ []) [] in
    let more : floats_from c (at + 1) (es ++ e ∷ []) ≡ floats_from c (at + 1) es ++ last (at + suc (length es)) = floats-push c (at + 1) es e ∙ ap (λ n. floats_from c (at + 1) es ++ last n) (place at (length es)) in
    rw more (elim (is_float_with c d) as (λ b. cond b (float_mention at ∷ floats_from c (at + 1) es ++ last (at + suc (length es))) (floats_from c (at + 1) es ++ last (at + suc (length es))) ≡ cond b (float_mention at ∷ floats_from c (at + 1) es) (floats_from c (at + 1) es) ++ last (at + suc (length es))) [ true ↦ refl | false ↦ refl ])

-- all are at the entries
pub floats-until : (c at last : ℕ) (es : List Entry) → at + length es ≤ last + 1 → IsUntil last (floats_from c at es)
floats-until c at last [] le = tt
floats-until c at last (e ∷ es) le =
    let more = floats-until c (at + 1) last es (omega (arith, le)) in
    elim (is_float_with c e) as (λ b. IsUntil last (cond b (float_mention at ∷ floats_from c (at + 1) es) (floats_from c (at + 1) es))) [ true ↦ (omega (arith, le), more) | false ↦ more ]

floats-above : (c at last : ℕ) (es : List Entry) → last < at → kept_until last (floats_from c at es) ≡ []
floats-above c at last [] lt = refl
floats-above c at last (e ∷ es) lt =
    let more = floats-above c (at + 1) last es (omega (arith, lt)) in
    let high : nat_le at last ≡ false = grind (arith, lt) in
    elim (is_float_with c e) as (λ b. kept_until last (cond b (float_mention at ∷ floats_from c (at + 1) es) (floats_from c (at + 1) es)) ≡ []) [ true ↦ rw high more | false ↦ more ]

floats-kept : (c at last n : ℕ) (es : List Entry) → last + 1 ≡ at + n → kept_until last (floats_from c at es) ≡ floats_from c at (take n es)
floats-kept c at last zero es is = floats-above c at last es (omega (arith, is))
floats-kept c at last (suc n) [] is = refl
floats-kept c at last (suc n) (e ∷ es) is =
    let more = floats-kept c (at + 1) last n es (omega (arith, is)) in
    let low : nat_le at last ≡ true = grind (arith, is) in
    elim (is_float_with c e) as (λ b. kept_until last (cond b (float_mention at ∷ floats_from c (at + 1) es) (floats_from c (at + 1) es)) ≡ cond b (float_mention at ∷ floats_from c (at + 1) (take n es)) (floats_from c (at + 1) (take n es))) [ true ↦ rw low (ap (λ r. float_mention at ∷ r) more) | false ↦ more ]

lt-le : (m end last : ℕ) → end ≡ last + 1 → nat_lt m end ≡ nat_le m last
lt-le m end last is = elim (cases_lt last m) [
  | inl lt ↦ let a : nat_lt m end ≡ false = grind (arith, lt, is) in let b : nat_le m last ≡ false = grind (arith, lt) in a ∙ sym b
  | inr le ↦ let a : nat_lt m end ≡ true = grind (arith, le, is) in let b : nat_le m last ≡ true = grind (arith, le) in a ∙ sym b
]

before-kept : (end last : ℕ) (ms : List Mention) → end ≡ last + 1 → before end ms ≡ kept_until last ms
before-kept end last [] is = refl
before-kept end last (m ∷ ms) is = rw (lt-le m.position end last is, before-kept end last ms is) refl

-- those before a position are those of the statements before it
pub floats-found : (es : List Entry) (lists : List (List Mention)) (c end i : ℕ) (stack : List Mention) → AreFloatsOf es lists → end ≡ i + 1 → stack ≡ before end (mentions_of lists c) → stack ≡ floats_from c 1 (take i es)
floats-found es lists c end i stack are at is = is ∙ (before-kept end i (mentions_of lists c) at ∙ (ap (kept_until i) (are c) ∙ floats-kept c 1 i i es (omega arith)))

pub floats-front : (es : List Entry) (old new : List (List Mention)) (n : ℕ) → AreFloatsOf es old → AreKeptUntil n old new → AreFloatsOf (take n es) new
floats-front es old new n are kept c = kept c ∙ (ap (kept_until n) (are c) ∙ floats-kept c 1 n n es (omega arith))

-- if mentions are appended and removed again, the table is as before
pub floats-back : (es : List Entry) (old mid new : List (List Mention)) → AreFloatsOf es old → KeepsUntil (length es) old mid → AreKeptUntil (length es) mid new → AreFloatsOf es new
floats-back es old mid new are keeps kept = subst (λ fs. AreFloatsOf fs new) (take_all (length es) es (omega arith)) (floats-front es old new (length es) are (λ c. kept c ∙ keeps c))

-- ---- the table after one more entry

float-test : (c : ℕ) (kind : Kind) (codes : List ℕ) → kind ≡ Float → length codes ≡ 2 → (is_float_kind kind && second_is c codes) ≡ nat_eq c (get_or codes 1 0)
float-test c Float (x ∷ y ∷ codes) is two = refl
float-test c Float codes is two = absurd (omega (arith, two))
float-test c kind codes is two = cc

pub floats-more : (es : List Entry) (e : Entry) (n : ℕ) (old new : List (List Mention)) → AreFloatsOf es old → e.kind ≡ Float → length e.symbols ≡ 2 → n ≡ 1 + length es
    → AreWith old (get_or e.symbols 1 0) (mentions_of old (get_or e.symbols 1 0) ++ float_mention n ∷ []) new → AreFloatsOf (es ++ e ∷ []) new
floats-more es e n old new are is two at with c =
    let x = get_or e.symbols 1 0 in
    let one : cond (nat_eq c x) (mentions_of old x ++ float_mention n ∷ []) (mentions_of old c) ≡ mentions_of old c ++ cond (nat_eq c x) (float_mention n ∷ []) [] =
    elim (cases_Bool (nat_eq c x)) [
      | inl here ↦ let same : x ≡ c = grind (arith, here) in rw (here, same) refl
      | inr other ↦ rw other (sym (append-nil (mentions_of old c)))
    ] in
    with c ∙ (one ∙ (ap (λ l. l ++ cond (nat_eq c x) (float_mention n ∷ []) []) (are c)
    ∙ (ap (λ m. floats_from c 1 es ++ cond (nat_eq c x) (float_mention m ∷ []) []) at
    ∙ (ap (λ b. floats_from c 1 es ++ cond b (float_mention (1 + length es) ∷ []) []) (sym (float-test c e.kind e.symbols is two)) ∙ sym (floats-push c 1 es e)))))

pub floats-other : (es : List Entry) (e : Entry) (old : List (List Mention)) → AreFloatsOf es old → (e.kind ≡ Float → ⊥) → AreFloatsOf (es ++ e ∷ []) old
floats-other es e old are other c =
    are c ∙ (sym (append-nil (floats_from c 1 es)) ∙ (ap (λ b. floats_from c 1 es ++ cond (b && second_is c e.symbols) (float_mention (1 + length es) ∷ []) []) (sym (none e.kind other)) ∙ sym (floats-push c 1 es e)))
  where
    none : (kind : Kind) → (kind ≡ Float → ⊥) → is_float_kind kind ≡ false
    none Float differs = absurd (differs refl)
    none kind differs = refl

-- ---- the last `$f` of a symbol

split : (b : Bool) (m : Mention) (ms : List Mention) → cond b (m ∷ ms) ms ≡ [] → (b ≡ false) × (ms ≡ [])
split false m ms e = (refl, e)
split true m ms e = cc

pub none-found : (c at : ℕ) (es : List Entry) → floats_from c at es ≡ [] → (j : ℕ) (x : Entry) → slice_get es j ≡ Some x → is_float_with c x ≡ false
none-found c at [] none j x got = cc
none-found c at (e ∷ es) none zero x got = let same : e ≡ x = cc in ap (is_float_with c) (sym same) ∙ (split (is_float_with c e) _ _ none).0
none-found c at (e ∷ es) none (suc j) x got = none-found c (at + 1) es (split (is_float_with c e) _ _ none).1 j x got

pub last-found : (c at : ℕ) (es : List Entry) (front : List Mention) (m : Mention) → floats_from c at es ≡ front ++ m ∷ [] → IsLastFloat c at es m.position
last-found c at [] [] m is = cc
last-found c at [] (f ∷ front) m is = cc
last-found c at (e ∷ es) front m is = by (is_float_with c e) refl front is (last-found c (at + 1) es)
  where
    after : (n : ℕ) → ((j : ℕ) (x : Entry) → n < suc j → slice_get es j ≡ Some x → is_float_with c x ≡ false) → (j : ℕ) (x : Entry) → n < j → slice_get (e ∷ es) j ≡ Some x → is_float_with c x ≡ false
    after n fails zero x lt got = absurd (omega (arith, lt))
    after n fails (suc j) x lt got = fails j x lt got

    later : IsLastFloat c (at + 1) es m.position → IsLastFloat c at (e ∷ es) m.position
    later l = record { place = suc l.place; entry = l.entry; found = l.found; passes = l.passes; is = (let q = l.is in omega (arith, q)); last = after (suc l.place) (λ j x lt got. l.last j x (omega (arith, lt)) got) }

    by : (b : Bool) → is_float_with c e ≡ b → (front : List Mention) → cond b (float_mention at ∷ floats_from c (at + 1) es) (floats_from c (at + 1) es) ≡ front ++ m ∷ []
        → ((front : List Mention) (u : Mention) → floats_from c (at + 1) es ≡ front ++ u ∷ [] → IsLastFloat c (at + 1) es u.position) → IsLastFloat c at (e ∷ es) m.position
    by false other front is rest = later (rest front m is)
    by true own [] is rest =
        let here : float_mention at ≡ m = cc in
        let none : floats_from c (at + 1) es ≡ [] = cc in
        record { place = 0; entry = e; found = refl; passes = own; is = sym (ap (λ (u : Mention). u.position) here) ∙ sym (add-zero at); last = after 0 (λ j x lt got. none-found c (at + 1) es none j x got) }
    by true own (f ∷ front) is rest = let tail : floats_from c (at + 1) es ≡ front ++ m ∷ [] = cc in later (rest front m tail)

-- there is only one
pub last-same : {c at : ℕ} {es : List Entry} {p q : ℕ} → IsLastFloat c at es p → IsLastFloat c at es q → p ≡ q
last-same a b =
    let f : a.place < b.place → ⊥ = λ lt. true≢false (sym b.passes ∙ a.last b.place b.entry lt b.found) in
    let g : b.place < a.place → ⊥ = λ lt. true≢false (sym a.passes ∙ b.last a.place a.entry lt a.found) in
    let i = a.is in
    let j = b.is in
    omega (arith, f, g, i, j)
