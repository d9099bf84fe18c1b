-- Pages of 256 slots, joined in order into one list.
use Rattle.slots.proofs.Words.{◌≡◌, ℕ, zero, suc, ◌+◌, ◌-◌, ◌*◌, ◌<◌, List, [], ◌∷◌, ◌++◌, length, get_or, set, Option, refl, ap, sym, ◌∙◌, arith, le_of_suc-le-suc, append_assoc, append-nil, length-append, set-append_left, set-append_right, entry_at, joined, AreFullSize}

pub length-joined : {T : Type 0} (pages : List (List T)) → AreFullSize pages → length (joined pages) ≡ 256 * length pages
length-joined [] full_size = refl
length-joined (page ∷ pages) full_size =
    let rest = length-joined pages full_size.1 in
    length-append page (joined pages) ∙ omega (arith, rest, full_size.0)

pub joined-push : {T : Type 0} (pages : List (List T)) (page : List T) → joined (pages ++ page ∷ []) ≡ joined pages ++ page
joined-push [] page = append-nil page
joined-push (first ∷ pages) page = ap (λ slots. first ++ slots) (joined-push pages page) ∙ sym (append_assoc first (joined pages) page)

pub joined-append : {T : Type 0} (pages more : List (List T)) → joined (pages ++ more) ≡ joined pages ++ joined more
joined-append [] more = refl
joined-append (first ∷ pages) more = ap (λ slots. first ++ slots) (joined-append pages more) ∙ sym (append_assoc first (joined pages) (joined more))

pub full_size-append : {T : Type 0} (pages more : List (List T)) → AreFullSize pages → AreFullSize more → AreFullSize (pages ++ more)
full_size-append [] more full_size rest = rest
full_size-append (first ∷ pages) more full_size rest = (full_size.0, full_size-append pages more full_size.1 rest)

pub full_size-push : {T : Type 0} (pages : List (List T)) (page : List T) → AreFullSize pages → length page ≡ 256 → AreFullSize (pages ++ page ∷ [])
full_size-push [] page full_size one = (one, tt)
full_size-push (first ∷ pages) page full_size one = (full_size.0, full_size-push pages page full_size.1 one)

pub full_size-set : {T : Type 0} (pages : List (List T)) (i : ℕ) (page : List T) → AreFullSize pages → length page ≡ 256 → AreFullSize (set pages i page)
full_size-set [] i page full_size one = tt
full_size-set (first ∷ pages) zero page full_size one = (one, full_size.1)
full_size-set (first ∷ pages) (suc i) page full_size one = (full_size.0, full_size-set pages i page full_size.1 one)

pub full_size-at : {T : Type 0} (pages : List (List T)) (i : ℕ) (page : List T) → AreFullSize pages → page ≡ get_or pages i page → i < length pages → length page ≡ 256
full_size-at [] i page full_size is in_pages = absurd (omega arith)
full_size-at {T} (first ∷ pages) zero page full_size is in_pages = ap (λ (slots : List T). length slots) is ∙ full_size.0
full_size-at (first ∷ pages) (suc i) page full_size is in_pages = full_size-at pages i page full_size.1 is (le_of_suc-le-suc in_pages)

entry_at-append_left : {T : Type 0} (xs ys : List (Option T)) (s : ℕ) → s < length xs → entry_at (xs ++ ys) s ≡ entry_at xs s
entry_at-append_left [] ys s h = absurd (omega arith)
entry_at-append_left (x ∷ xs) ys zero h = refl
entry_at-append_left (x ∷ xs) ys (suc s) h = entry_at-append_left xs ys s (le_of_suc-le-suc h)

entry_at-append_right : {T : Type 0} (xs ys : List (Option T)) (s t : ℕ) → s ≡ length xs + t → entry_at (xs ++ ys) s ≡ entry_at ys t
entry_at-append_right {T} [] ys s t e = let same : s ≡ t = omega arith in ap (λ (i : ℕ). entry_at ys i) same
entry_at-append_right (x ∷ xs) ys zero t e = absurd (omega arith)
entry_at-append_right (x ∷ xs) ys (suc s) t e = entry_at-append_right xs ys s t (omega arith)

-- slot 256 * q + r is slot r of page q
pub entry_at-joined : {T : Type 0} (pages : List (List (Option T))) (d : List (Option T)) (q r s : ℕ) → AreFullSize pages → q < length pages → r < 256 → s ≡ 256 * q + r → entry_at (joined pages) s ≡ entry_at (get_or pages q d) r
entry_at-joined [] d q r s full_size in_pages in_page at = absurd (omega arith)
entry_at-joined {T} (page ∷ pages) d zero r s full_size in_pages in_page at =
    let same : s ≡ r = omega arith in
    ap (λ (i : ℕ). entry_at (page ++ joined pages) i) same ∙ entry_at-append_left page (joined pages) r (omega (arith, full_size.0))
entry_at-joined (page ∷ pages) d (suc q) r s full_size in_pages in_page at =
    entry_at-append_right page (joined pages) s (256 * q + r) (omega (arith, full_size.0))
    ∙ entry_at-joined pages d q r (256 * q + r) full_size.1 (le_of_suc-le-suc in_pages) in_page refl

pub set-joined : {T : Type 0} (pages : List (List T)) (d : List T) (q r s : ℕ) (x : T) → AreFullSize pages → q < length pages → r < 256 → s ≡ 256 * q + r → set (joined pages) s x ≡ joined (set pages q (set (get_or pages q d) r x))
set-joined [] d q r s x full_size in_pages in_page at = absurd (omega arith)
set-joined {T} (page ∷ pages) d zero r s x full_size in_pages in_page at =
    let same : s ≡ r = omega arith in
    ap (λ (i : ℕ). set (page ++ joined pages) i x) same ∙ set-append_left page (joined pages) r x (omega (arith, full_size.0))
set-joined {T} (page ∷ pages) d (suc q) r s x full_size in_pages in_page at =
    let rest : s - 256 ≡ 256 * q + r = omega arith in
    set-append_right page (joined pages) 256 s x full_size.0 (omega arith)
    ∙ ap (λ (i : ℕ). page ++ set (joined pages) i x) rest
    ∙ ap (λ (slots : List T). page ++ slots) (set-joined pages d q r (256 * q + r) x full_size.1 (le_of_suc-le-suc in_pages) in_page refl)
