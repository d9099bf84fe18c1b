-- Writes one after another, and the texts of rows one after another.
use Rattle.proof_pages.proofs.Words.{◌≡◌, ℕ, suc, ◌+◌, ◌<◌, ◌≤◌, List, [], ◌∷◌, ◌++◌, length, take, get_or, Option, Some, None, Result, Ok, Err, OnOk, Appends, sym, ◌∙◌, ap, subst, arith, append-nil, append_assoc, take_more, take_all, length-take-le, concat_texts, IsWrittenThenBuffered}

-- writing one text and then another writes both
pub appends_on : (a b c : Option (List ℕ)) (x y : List ℕ) → Appends a b x → Appends b c y → Appends a c (x ++ y)
appends_on None b c x y h k = tt
appends_on (Some xs) None c x y h k = absurd h
appends_on (Some xs) (Some ys) None x y h k = absurd k
appends_on (Some xs) (Some ys) (Some zs) x y h k = k ∙ (ap (λ s. s ++ y) h ∙ append_assoc xs x y)

-- a text is added to the buffer, and part of the buffer may be written
pub wrote_on : (a b c : Option (List ℕ)) (buffered text later more : List ℕ) → IsWrittenThenBuffered a b buffered text → IsWrittenThenBuffered b c later (buffered ++ more) → IsWrittenThenBuffered a c later (text ++ more)
wrote_on a b c buffered text later more w v = record {
  written_bytes = w.written_bytes ++ v.written_bytes;
  appends = appends_on a b c w.written_bytes v.written_bytes w.appends v.appends;
  whole = append_assoc w.written_bytes v.written_bytes later ∙ (ap (λ s. w.written_bytes ++ s) v.whole ∙ (sym (append_assoc w.written_bytes buffered more) ∙ ap (λ s. s ++ more) w.whole));
}

-- when the buffered part is written, the text is written
pub wrote_all : (a b c : Option (List ℕ)) (buffered text : List ℕ) → IsWrittenThenBuffered a b buffered text → Appends b c buffered → Appends a c text
wrote_all a b c buffered text w h = subst (λ s. Appends a c s) w.whole (appends_on a b c w.written_bytes buffered w.appends h)

texts-more : {A : Type 0} (f : ℕ → A → List ℕ) (index : ℕ) (rows : List A) (r : A) → concat_texts f index (rows ++ r ∷ []) ≡ concat_texts f index rows ++ f (index + length rows) r
texts-more f index [] r = append-nil (f index r) ∙ ap (λ n. f n r) (let e : index ≡ index + 0 = omega arith in e)
texts-more f index (x ∷ rows) r =
    ap (λ t. f index x ++ t) (texts-more f (suc index) rows r)
    ∙ (sym (append_assoc (f index x) (concat_texts f (suc index) rows) (f (suc index + length rows) r))
    ∙ ap (λ n. f index x ++ concat_texts f (suc index) rows ++ f n r) (let e : suc index + length rows ≡ index + suc (length rows) = omega arith in e))

-- the texts of the first i + 1 rows are those of the first i rows and that of row i
pub texts_grow : {A : Type 0} (f : ℕ → A → List ℕ) (rows : List A) (i : ℕ) (d : A) → i < length rows → concat_texts f 0 (take (i + 1) rows) ≡ concat_texts f 0 (take i rows) ++ f i (get_or rows i d)
texts_grow f rows i d h =
    ap (λ rs. concat_texts f 0 rs) (take_more rows i d h)
    ∙ (texts-more f 0 (take i rows) (get_or rows i d)
    ∙ ap (λ n. concat_texts f 0 (take i rows) ++ f n (get_or rows i d)) (let e = length-take-le i rows (omega (arith, h)) in omega (arith, e)))

-- the text of one more row is added, and part of the buffer may be written
pub row_on : {A : Type 0} (f : ℕ → A → List ℕ) (rows : List A) (i : ℕ) (d : A) (head : List ℕ) (a b c : Option (List ℕ)) (buffered later new : List ℕ) → i < length rows → IsWrittenThenBuffered a b buffered (head ++ concat_texts f 0 (take i rows))
    → new ≡ buffered ++ f i (get_or rows i d) → IsWrittenThenBuffered b c later new → IsWrittenThenBuffered a c later (head ++ concat_texts f 0 (take (i + 1) rows))
row_on f rows i d head a b c buffered later new h w e v =
    subst (λ t. IsWrittenThenBuffered a c later t) (append_assoc head (concat_texts f 0 (take i rows)) (f i (get_or rows i d)) ∙ sym (ap (λ t. head ++ t) (texts_grow f rows i d h)))
    (wrote_on a b c buffered (head ++ concat_texts f 0 (take i rows)) later (f i (get_or rows i d)) w (subst (λ s. IsWrittenThenBuffered b c later s) e v))

-- when all rows are added, the rest of the buffer is written with the tail
pub end_on : {T E A : Type 0} (r : Result T E) (f : ℕ → A → List ℕ) (rows : List A) (i : ℕ) (head tail : List ℕ) (a b c : Option (List ℕ)) (buffered bytes : List ℕ) → length rows ≤ i
    → IsWrittenThenBuffered a b buffered (head ++ concat_texts f 0 (take i rows)) → bytes ≡ buffered ++ tail → OnOk r (Appends b c bytes) → OnOk r (Appends a c (head ++ concat_texts f 0 rows ++ tail))
end_on (Ok v) f rows i head tail a b c buffered bytes h w e k =
    subst (λ rs. Appends a c (head ++ concat_texts f 0 rs ++ tail)) (take_all i rows h)
    (wrote_all a b c (buffered ++ tail) (head ++ concat_texts f 0 (take i rows) ++ tail)
    (record { written_bytes = w.written_bytes; appends = w.appends; whole = sym (append_assoc w.written_bytes buffered tail) ∙ ap (λ s. s ++ tail) w.whole })
    (subst (λ s. Appends b c s) e k))
end_on (Err x) f rows i head tail a b c buffered bytes h w e k = tt

-- ---- parts of a page

-- nothing is added
pub nothing_on : (a : Option (List ℕ)) (page : List ℕ) → IsWrittenThenBuffered a a page (page ++ [])
nothing_on a page = record { written_bytes = []; appends = same a; whole = sym (append-nil page) }
  where
    same : (a : Option (List ℕ)) → Appends a a []
    same None = tt
    same (Some xs) = sym (append-nil xs)

-- a text is added to the buffer
pub buffered_on : (a b : Option (List ℕ)) (buffered text tail new : List ℕ) → IsWrittenThenBuffered a b buffered text → new ≡ buffered ++ tail → IsWrittenThenBuffered a b new (text ++ tail)
buffered_on a b buffered text tail new w e = record {
  written_bytes = w.written_bytes;
  appends = w.appends;
  whole = ap (λ s. w.written_bytes ++ s) e ∙ (sym (append_assoc w.written_bytes buffered tail) ∙ ap (λ s. s ++ tail) w.whole);
}

-- a text between two others
pub between_on : (a b : Option (List ℕ)) (old start first text tail mid new : List ℕ) → first ≡ old ++ start → IsWrittenThenBuffered a b mid (first ++ text) → new ≡ mid ++ tail
    → IsWrittenThenBuffered a b new (old ++ (start ++ text ++ tail))
between_on a b old start first text tail mid new e w added =
    subst (λ t. IsWrittenThenBuffered a b new t)
    (ap (λ s. s ++ tail) (ap (λ p. p ++ text) e ∙ append_assoc old start text) ∙ append_assoc old (start ++ text) tail)
    (buffered_on a b mid (first ++ text) tail new w added)

-- the rows of a table between its start and its end
pub rows_end : {A : Type 0} (f : ℕ → A → List ℕ) (rows : List A) (i : ℕ) (a b : Option (List ℕ)) (old start first tail mid new : List ℕ) → length rows ≤ i
    → first ≡ old ++ start → IsWrittenThenBuffered a b mid (first ++ concat_texts f 0 (take i rows)) → new ≡ mid ++ tail → IsWrittenThenBuffered a b new (old ++ (start ++ concat_texts f 0 rows ++ tail))
rows_end f rows i a b old start first tail mid new h e w added =
    between_on a b old start first (concat_texts f 0 rows) tail mid new e (subst (λ rs. IsWrittenThenBuffered a b mid (first ++ concat_texts f 0 rs)) (take_all i rows h) w) added

-- two texts after a start
pub two_on : {T E : Type 0} (r : Result T E) (a b c : Option (List ℕ)) (old start first x mid y new : List ℕ) → first ≡ old ++ start → IsWrittenThenBuffered a b mid (first ++ x)
    → OnOk r (IsWrittenThenBuffered b c new (mid ++ y)) → OnOk r (IsWrittenThenBuffered a c new (old ++ (start ++ x ++ y)))
two_on (Ok v) a b c old start first x mid y new e w k =
    subst (λ t. IsWrittenThenBuffered a c new t)
    (ap (λ s. s ++ y) (ap (λ p. p ++ x) e ∙ append_assoc old start x) ∙ append_assoc old (start ++ x) y)
    (wrote_on a b c mid (first ++ x) new y w k)
two_on (Err e) a b c old start first x mid y new first_is w k = tt

-- two texts, the second of which is added to the buffer
pub then_on : (a b : Option (List ℕ)) (old x mid y new : List ℕ) → IsWrittenThenBuffered a b mid (old ++ x) → new ≡ mid ++ y → IsWrittenThenBuffered a b new (old ++ (x ++ y))
then_on a b old x mid y new w added = subst (λ t. IsWrittenThenBuffered a b new t) (append_assoc old x y) (buffered_on a b mid (old ++ x) y new w added)

-- the five parts of a page
pub page_on : {T E : Type 0} (r : Result T E) (a b c : Option (List ℕ)) (empty p1 p2 p3 p4 p5 x y z u v bytes : List ℕ) → empty ≡ [] → p1 ≡ empty ++ x → p2 ≡ p1 ++ y
    → IsWrittenThenBuffered a b p3 (p2 ++ z) → p4 ≡ p3 ++ u → p5 ≡ p4 ++ v → bytes ≡ p5 → OnOk r (Appends b c bytes) → OnOk r (Appends a c (x ++ y ++ z ++ u ++ v))
page_on (Ok t) a b c empty p1 p2 p3 p4 p5 x y z u v bytes none e1 e2 w e4 e5 is k =
    let start : p2 ≡ x ++ y = e2 ∙ ap (λ p. p ++ y) (e1 ∙ ap (λ e. e ++ x) none) in
    subst (λ p. Appends a c (p ++ z ++ u ++ v)) start
    (wrote_all a b c p5 (p2 ++ z ++ u ++ v) (buffered_on a b p4 (p2 ++ z ++ u) v p5 (buffered_on a b p3 (p2 ++ z) u p4 w e4) e5) (subst (λ s. Appends b c s) is k))
page_on (Err e) a b c empty p1 p2 p3 p4 p5 x y z u v bytes none e1 e2 w e4 e5 is k = tt
