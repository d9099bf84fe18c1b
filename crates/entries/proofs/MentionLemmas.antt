-- The mentions of a number: one is added, the first ones alone, and the positions from one down.
use Rattle.entries.proofs.Words.{nat_le, le-leb, lt-leb, leb-false, IsNonDecreasingBy, nat_lt, ltb-true, lt-ltb, same_Some, ◌≡◌, ◌⊎◌, inl, inr, ℕ, zero, suc, ◌-◌, ◌<◌, ◌≤◌, Bool, true, false, nat_eq, cond, List, [], ◌∷◌, ◌++◌, length, take, get_or, slice_get, slice_set, Some, refl, ◌∙◌, ap, sym, arith, append-nil, append_assoc, get_or-append_seam, get_or-set_at, get_or-set_other, get_or-take, length-append, length-take-le, take-append_seam, IsNonDecreasingBy-take, IsNonDecreasingBy-push}
use Rattle.std.proofs.Common.{filter}
use Rattle.std.proofs.lemmas.Bool.{leb-true}
use Rattle.entries.proofs.BufferPlaceLemmas.{get-push, take-get}
use Rattle.entries.proofs.StatementRecordLemmas.{get-last}
use Rattle.entries.specs.declared.mentions.Mention.{Mention}
use Rattle.entries.specs.Mentions.{AreMentions, AreWith, IsUntil, before, kept_until, mentions_of, positions_of, stack_after, stack_of, stacks_after}

-- ---- the positions from a mention down

after-take : (n : ℕ) (done : List (List ℕ)) (ms : List Mention) → stacks_after done (take n ms) ≡ take n (stacks_after done ms)
after-take zero done ms = refl
after-take (suc n) done [] = refl
after-take (suc n) done (m ∷ ms) = ap (λ r. stack_of done m ∷ r) (after-take n (done ++ stack_of done m ∷ []) ms)

after-length : (done : List (List ℕ)) (ms : List Mention) → length (stacks_after done ms) ≡ length ms
after-length done [] = refl
after-length done (m ∷ ms) = ap suc (after-length (done ++ stack_of done m ∷ []) ms)

after-push : (done : List (List ℕ)) (ms : List Mention) (m : Mention) → stacks_after done (ms ++ m ∷ []) ≡ stacks_after done ms ++ stack_of (done ++ stacks_after done ms) m ∷ []
after-push done [] m = ap (λ d. stack_of d m ∷ []) (sym (append-nil done))
after-push done (u ∷ ms) m =
    let x = stack_of done u in
    ap (λ r. x ∷ r) (after-push (done ++ x ∷ []) ms m ∙ ap (λ d. stacks_after (done ++ x ∷ []) ms ++ stack_of d m ∷ []) (append_assoc done (x ∷ []) (stacks_after (done ++ x ∷ []) ms)))

after-fewer : (n m : ℕ) (V : List (List ℕ)) → n ≤ m → stack_after n (take m V) ≡ stack_after n V
after-fewer zero m V le = refl
after-fewer (suc i) m V le = get_or-take m V i [] (omega (arith, le))

-- from the last mention down: its position, and those from the mention that it leads to
pub positions-push : (ms : List Mention) (m : Mention) → m.beneath ≤ length ms → positions_of (ms ++ m ∷ []) ≡ m.position ∷ positions_of (take m.beneath ms)
positions-push ms m le =
    let V = stacks_after [] ms in
    let size : length (ms ++ m ∷ []) ≡ suc (length V) = omega (arith, length-append ms (m ∷ []), after-length [] ms) in
    let few : length (take m.beneath ms) ≡ m.beneath = length-take-le m.beneath ms le in
    let below : positions_of (take m.beneath ms) ≡ stack_after m.beneath V =
    ap (λ n. stack_after n (stacks_after [] (take m.beneath ms))) few
    ∙ (ap (stack_after m.beneath) (after-take m.beneath [] ms) ∙ after-fewer m.beneath m.beneath V (omega arith)) in
    ap (λ n. stack_after n (stacks_after [] (ms ++ m ∷ []))) size
    ∙ (ap (λ W. get_or W (length V) []) (after-push [] ms m)
    ∙ (get_or-append_seam V (stack_of V m) [] [] ∙ ap (λ s. m.position ∷ s) (sym below)))

-- ---- the first mentions, and one more

pub mentions-front : (ms : List Mention) (n : ℕ) → AreMentions ms → AreMentions (take n ms)
mentions-front ms n are = record {
  linked = λ i m got. are.linked i m (take-get n i ms m got).1;
  ordered = IsNonDecreasingBy-take (λ m. m.position) n ms are.ordered;
}

until-at : (ms : List Mention) (i : ℕ) (d : Mention) (at : ℕ) → IsUntil at ms → i < length ms → (get_or ms i d).position ≤ at
until-at [] i d at until lt = absurd (omega arith)
until-at (m ∷ ms) zero d at until lt = until.0
until-at (m ∷ ms) (suc i) d at until lt = until-at ms i d at until.1 (omega (arith, lt))

pub mentions-more : (ms : List Mention) (m : Mention) → AreMentions ms → m.beneath ≤ length ms → IsUntil m.position ms → AreMentions (ms ++ m ∷ [])
mentions-more ms m are le until = record {
  linked = λ i u got. by i u (get-push ms m u i got);
  ordered = IsNonDecreasingBy-push (λ u. u.position) ms m are.ordered (λ d some. until-at ms (length ms - 1) d m.position until (omega (arith, some)));
}
  where
    by : (i : ℕ) (u : Mention) → ((i < length ms) × (slice_get ms i ≡ Some u)) ⊎ ((i ≡ length ms) × (m ≡ u)) → u.beneath ≤ i
    by i u (inl old) = are.linked i u old.1
    by i u (inr new) = let is : m.beneath ≡ u.beneath = ap (λ (v : Mention). v.beneath) new.1 in omega (arith, le, is, new.0)

-- ---- the last mention, and those before it

pub last-is : (xs front : List Mention) (m : Mention) → xs ≡ front ++ m ∷ [] → slice_get xs (length xs - 1) ≡ Some m
last-is xs front m is =
    ap (slice_get xs) (omega (arith, ap length is, length-append front (m ∷ []))) ∙ (ap (λ l. slice_get l (length front)) is ∙ get-last front m)

pub front-is : (xs front : List Mention) (m : Mention) (n : ℕ) → xs ≡ front ++ m ∷ [] → n ≡ length xs → take (n - 1) xs ≡ front
front-is xs front m n is size =
    ap (λ k. take k xs) (omega (arith, size, ap length is, length-append front (m ∷ []))) ∙ (ap (take (length front)) is ∙ take-append_seam front (m ∷ []))

-- ---- those that pass a test are the first ones

pub filter-front : {X : Type 0} (p : X → Bool) (xs : List X) (n : ℕ) → n ≤ length xs → ((k : ℕ) (d : X) → k < n → p (get_or xs k d) ≡ true) → ((k : ℕ) (d : X) → n ≤ k → k < length xs → p (get_or xs k d) ≡ false)
    → filter p xs ≡ take n xs
filter-front p [] zero le low high = refl
filter-front p [] (suc n) le low high = refl
filter-front p (x ∷ xs) zero le low high =
    ap (λ b. cond b (x ∷ filter p xs) (filter p xs)) (high 0 x (omega arith) (omega arith))
    ∙ filter-front p xs zero (omega arith) (λ k d lt. absurd (omega (arith, lt))) (λ k d ge lt. high (suc k) d (omega arith) (omega (arith, lt)))
filter-front p (x ∷ xs) (suc n) le low high =
    ap (λ b. cond b (x ∷ filter p xs) (filter p xs)) (low 0 x (omega arith))
    ∙ ap (λ r. x ∷ r) (filter-front p xs n (omega (arith, le)) (λ k d lt. low (suc k) d (omega (arith, lt))) (λ k d ge lt. high (suc k) d (omega (arith, ge)) (omega (arith, lt))))

-- ---- the mentions of one number of the table

pub set-with : (lists : List (List Mention)) (i : ℕ) (ms : List Mention) → i < length lists → AreWith lists i ms (slice_set lists i ms)
set-with lists i ms lt d = by (nat_eq d i) refl
  where
    by : (b : Bool) → nat_eq d i ≡ b → mentions_of (slice_set lists i ms) d ≡ cond b ms (mentions_of lists d)
    by true e = get_or-set_at lists i d ms [] (grind (arith, e)) lt
    by false e = get_or-set_other lists i d ms [] (λ h. let is : nat_eq i i ≡ true = grind arith in cc)

-- ---- the mentions before a position

pub before-below : (ms : List Mention) (at i : ℕ) (m : Mention) → slice_get (before at ms) i ≡ Some m → m.position < at
before-below [] at i m got = cc
before-below (u ∷ ms) at i m got = by (nat_lt u.position at) refl i (λ j. before-below ms at j m) got
  where
    by : (b : Bool) → nat_lt u.position at ≡ b → (i : ℕ) → ((j : ℕ) → slice_get (before at ms) j ≡ Some m → m.position < at) → slice_get (cond b (u ∷ before at ms) (before at ms)) i ≡ Some m → m.position < at
    by true e zero rest g = let same : u ≡ m = same_Some u m g in let here = ltb-true u.position at e in omega (arith, here, ap (λ (v : Mention). v.position) same)
    by true e (suc j) rest g = rest j g
    by false e j rest g = rest j g

pub before-has : (ms : List Mention) (at i : ℕ) (m : Mention) → slice_get ms i ≡ Some m → m.position < at → (j : ℕ) × (slice_get (before at ms) j ≡ Some m)
before-has [] at i m got lt = absurd (cc)
before-has (u ∷ ms) at zero m got lt =
    let same : u ≡ m = same_Some u m got in
    let here : nat_lt u.position at ≡ true = ap (λ (v : Mention). nat_lt v.position at) same ∙ lt-ltb m.position at lt in
    (0, ap (λ b. slice_get (cond b (u ∷ before at ms) (before at ms)) 0) here ∙ ap Some same)
before-has (u ∷ ms) at (suc i) m got lt = by (nat_lt u.position at) (before-has ms at i m got lt)
  where
    by : (b : Bool) → (j : ℕ) × (slice_get (before at ms) j ≡ Some m) → (j : ℕ) × (slice_get (cond b (u ∷ before at ms) (before at ms)) j ≡ Some m)
    by true r = (suc r.0, r.1)
    by false r = r

-- the mentions up to a position are the first ones
pub kept-first : (n : ℕ) (ms : List Mention) → IsNonDecreasingBy (λ m. m.position) ms → (k : ℕ) × (kept_until n ms ≡ take k ms)
kept-first n [] up = (0, refl)
kept-first n (m ∷ ms) up = by (nat_le m.position n) refl (kept-first n ms (λ i j d le lt. up (suc i) (suc j) d (omega (arith, le)) (omega (arith, lt))))
  where
    none : (us : List Mention) → ((i : ℕ) (d : Mention) → i < length us → m.position ≤ (get_or us i d).position) → n < m.position → kept_until n us ≡ []
    none [] above late = refl
    none (u ∷ us) above late =
        let here = above 0 u (omega arith) in
        ap (λ b. cond b (u ∷ kept_until n us) (kept_until n us)) (lt-leb u.position n (omega (arith, here, late))) ∙ none us (λ i d lt. above (suc i) d (omega (arith, lt))) late

    by : (b : Bool) → nat_le m.position n ≡ b → (k : ℕ) × (kept_until n ms ≡ take k ms) → (k : ℕ) × (cond b (m ∷ kept_until n ms) (kept_until n ms) ≡ take k (m ∷ ms))
    by true e r = (suc r.0, ap (λ l. m ∷ l) r.1)
    by false e r = (0, none ms (λ i d lt. up 0 (suc i) d (omega arith) (omega (arith, lt))) (leb-false m.position n e))

pub kept-below : (ms : List Mention) (n i : ℕ) (m : Mention) → slice_get (kept_until n ms) i ≡ Some m → m.position ≤ n
kept-below [] n i m got = cc
kept-below (u ∷ ms) n i m got = by (nat_le u.position n) refl i (λ j. kept-below ms n j m) got
  where
    by : (b : Bool) → nat_le u.position n ≡ b → (i : ℕ) → ((j : ℕ) → slice_get (kept_until n ms) j ≡ Some m → m.position ≤ n) → slice_get (cond b (u ∷ kept_until n ms) (kept_until n ms)) i ≡ Some m → m.position ≤ n
    by true e zero rest g = let same : u ≡ m = same_Some u m g in let here = leb-true u.position n e in omega (arith, here, ap (λ (v : Mention). v.position) same)
    by true e (suc j) rest g = rest j g
    by false e j rest g = rest j g

pub kept-has : (ms : List Mention) (n i : ℕ) (m : Mention) → slice_get ms i ≡ Some m → m.position ≤ n → (j : ℕ) × (slice_get (kept_until n ms) j ≡ Some m)
kept-has [] n i m got le = absurd (cc)
kept-has (u ∷ ms) n zero m got le =
    let same : u ≡ m = same_Some u m got in
    let here : nat_le u.position n ≡ true = ap (λ (v : Mention). nat_le v.position n) same ∙ le-leb m.position n le in
    (0, ap (λ b. slice_get (cond b (u ∷ kept_until n ms) (kept_until n ms)) 0) here ∙ ap Some same)
kept-has (u ∷ ms) n (suc i) m got le = by (nat_le u.position n) (kept-has ms n i m got le)
  where
    by : (b : Bool) → (j : ℕ) × (slice_get (kept_until n ms) j ≡ Some m) → (j : ℕ) × (slice_get (cond b (u ∷ kept_until n ms) (kept_until n ms)) j ≡ Some m)
    by true r = (suc r.0, r.1)
    by false r = r
