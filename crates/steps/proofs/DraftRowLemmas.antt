-- The rows after a row is appended: the earlier rows stay.
use Rattle.steps.proofs.Words.{◌≡◌, ◌≢◌, ℕ, zero, suc, ◌≤◌, ◌⊎◌, List, [], ◌∷◌, ◌++◌, length, map, slice_get, Some, None, refl, sym, ◌∙◌, ap, subst, arith, inl, inr, true≢false, true, false, Bool, BTreeMap, bytes_eq, Vec, Global, bytes_eq-Decides, slice_get_within, map_push, Name, Database, decode, AreBelow, seen-more, seen-last, get-front, StoredStep, Step, Row, row, no_row, steps_of, expr_in, Follows, from_hypothesis, from_assertion, IsRow, AreRows, row_of, key_of, place_of, AreStepPlaces, AreInBuffer, below-more, get-last}

-- ---- one buffer

rows-kept : (xs e : List ℕ) (ps : List StoredStep) → AreInBuffer (length xs) ps → map (row_of (xs ++ e)) ps ≡ map (row_of xs) ps
rows-kept xs e [] b = refl
rows-kept xs e (p ∷ ps) b =
    ap (λ s. (let r : Row = record { step = record { position = p.position; taken = p.taken.items }; expr = s } in r) ∷ map (row_of (xs ++ e)) ps) (seen-more xs e p.range b.0 b.1)
    ∙ ap (λ r. row_of xs p ∷ r) (rows-kept xs e ps b.2)

-- the rows stay when symbols are appended
pub rows-moved : (xs e zs : List ℕ) (ps : List StoredStep) → zs ≡ xs ++ e → AreInBuffer (length xs) ps → map (row_of zs) ps ≡ map (row_of xs) ps
rows-moved xs e zs ps more b = ap (λ s. map (row_of s) ps) more ∙ rows-kept xs e ps b

pub rows-more : (xs e zs : List ℕ) (ps : List StoredStep) (p : StoredStep) (step : Step) → AreInBuffer (length xs) ps → zs ≡ xs ++ e → p.range.start ≡ length xs → p.range.end ≡ length zs
    → p.position ≡ step.position → p.taken.items ≡ step.taken → map (row_of zs) (ps ++ p ∷ []) ≡ map (row_of xs) ps ++ (let r : Row = record { step = step; expr = e } in r) ∷ []
rows-more xs e zs ps p step b same start end position taken =
    map_push (row_of zs) ps p
    ∙ (ap (λ r. r ++ row_of zs p ∷ []) (ap (λ s. map (row_of s) ps) same ∙ rows-kept xs e ps b)
    ∙ ap (λ r. map (row_of xs) ps ++ r ∷ [])
    (ap (λ s. let r : Row = record { step = record { position = p.position; taken = p.taken.items }; expr = s } in r) (seen-last xs e zs p.range same start end)
    ∙ (ap (λ k. let r : Row = record { step = record { position = k; taken = p.taken.items }; expr = e } in r) position
    ∙ ap (λ t. let r : Row = record { step = record { position = step.position; taken = t }; expr = e } in r) taken)))

pub buffer-weaken : (n m : ℕ) (ps : List StoredStep) → n ≤ m → AreInBuffer n ps → AreInBuffer m ps
buffer-weaken n m [] h b = tt
buffer-weaken n m (p ∷ ps) h b = (b.0, (let e = b.1 in omega (arith, e, h)), buffer-weaken n m ps h b.2)

pub buffer-snoc : (n m : ℕ) (ps : List StoredStep) (p : StoredStep) → n ≤ m → AreInBuffer n ps → p.range.start ≤ p.range.end → p.range.end ≤ m → AreInBuffer m (ps ++ p ∷ [])
buffer-snoc n m [] p h b s e = (s, e, tt)
buffer-snoc n m (q ∷ ps) p h b s e = (b.0, (let x = b.1 in omega (arith, x, h)), buffer-snoc n m ps p h b.2 s e)

-- ---- lists of rows

pub some-front : {A : Type 0} (xs : List A) (x : A) (k : ℕ) (y : A) → slice_get (xs ++ x ∷ []) k ≡ Some y → (slice_get xs k ≡ Some y) ⊎ ((k ≡ length xs) × (y ≡ x))
some-front [] x zero y h = inr (refl, (let e : x ≡ y = cc in sym e))
some-front [] x (suc k) y h = cc
some-front (z ∷ xs) x zero y h = inl h
some-front (z ∷ xs) x (suc k) y h = on (some-front xs x k y h)
  where
    on : (slice_get xs k ≡ Some y) ⊎ ((k ≡ length xs) × (y ≡ x)) → (slice_get xs k ≡ Some y) ⊎ ((suc k ≡ suc (length xs)) × (y ≡ x))
    on (inl e) = inl e
    on (inr e) = inr (ap suc e.0, e.1)

pub some-more : {A : Type 0} (xs : List A) (x : A) (k : ℕ) (y : A) → slice_get xs k ≡ Some y → slice_get (xs ++ x ∷ []) k ≡ Some y
some-more [] x k y h = cc
some-more (z ∷ xs) x zero y h = h
some-more (z ∷ xs) x (suc k) y h = some-more xs x k y h

-- each step is that of a row
pub row-at : (rows : List Row) (k : ℕ) (step : Step) → slice_get (steps_of rows) k ≡ Some step → (row : Row) × (slice_get rows k ≡ Some row) × (row.step ≡ step)
row-at [] k step h = cc
row-at (r ∷ rows) zero step h = (r, refl, (let e : r.step ≡ step = cc in e))
row-at (r ∷ rows) (suc k) step h = row-at rows k step h

pub step-at : (rows : List Row) (k : ℕ) (row : Row) → slice_get rows k ≡ Some row → slice_get (steps_of rows) k ≡ Some row.step
step-at [] k row h = cc
step-at (r ∷ rows) zero row h = let e : r ≡ row = cc in ap (λ x. Some x.step) e
step-at (r ∷ rows) (suc k) row h = step-at rows k row h

pub exprs-front : (names : List Name) (rows : List Row) (row : Row) (ks : List ℕ) → AreBelow (length rows) ks → map (expr_in names (rows ++ row ∷ [])) ks ≡ map (expr_in names rows) ks
exprs-front names rows row [] b = refl
exprs-front names rows row (k ∷ ks) b =
    ap (λ r. decode names r.expr ∷ map (expr_in names (rows ++ row ∷ [])) ks) (get-front rows (row ∷ []) k no_row b.0)
    ∙ ap (λ r. expr_in names rows k ∷ r) (exprs-front names rows row ks b.1)

module _ (S : Database) (at : ℕ) (names : List Name) where
  follows-more : (rows : List Row) (new row : Row) → AreBelow (length rows) row.step.taken → Follows S at names rows row → Follows S at names (rows ++ new ∷ []) row
  follows-more rows new row b (from_hypothesis s active none is) = from_hypothesis s active none is
  follows-more rows new row b (from_assertion s σ fits takes is) = from_assertion s σ fits (exprs-front names rows new row.step.taken b ∙ takes) is

  pub rows-snoc : (rows : List Row) (row : Row) → AreRows S at names rows → AreBelow (length rows) row.step.taken → Follows S at names rows row → AreBelow (length names) row.expr → AreRows S at names (rows ++ row ∷ [])
  rows-snoc rows row are earlier follows low = λ k r h. by k r (some-front rows row k r h)
    where
      by : (k : ℕ) (r : Row) → (slice_get rows k ≡ Some r) ⊎ ((k ≡ length rows) × (r ≡ row)) → IsRow S at names (rows ++ row ∷ []) k r
      by k r (inl e) =
          let is = are k r e in
          let l = slice_get_within rows k r e in
          record { earlier = is.earlier; follows = follows-more rows row r (below-more k (length rows) r.step.taken (omega (arith, l)) is.earlier) is.follows; named = is.named }
      by k r (inr (e, same)) =
          subst (λ x. IsRow S at names (rows ++ row ∷ []) k x) (sym same)
          (record { earlier = subst (λ n. AreBelow n row.step.taken) (sym e) earlier; follows = follows-more rows row row earlier follows; named = low })

-- ---- finding a step that is there already

same-key : (a b : Step) → key_of a ≡ key_of b → a ≡ b
same-key a b e =
    let p : a.position ≡ b.position = cc in
    let t : a.taken ≡ b.taken = cc in
    ap (λ k. let s : Step = record { position = k; taken = a.taken } in s) p ∙ ap (λ u. let s : Step = record { position = b.position; taken = u } in s) t

pub step_places-snoc : (old new : BTreeMap (Vec ℕ Global) ℕ) (steps : List Step) (step : Step) → AreStepPlaces old steps → place_of old (key_of step) ≡ None → place_of new (key_of step) ≡ Some (length steps)
    → ((x : List ℕ) → x ≢ key_of step → place_of new x ≡ place_of old x) → AreStepPlaces new (steps ++ step ∷ [])
step_places-snoc old new steps step k fresh own others = record { there = λ s n h. there s n (bytes_eq (key_of s) (key_of step)) refl h; all = λ s n h. all s n (some-front steps step n s h) }
  where
    there : (s : Step) (n : ℕ) → (b : Bool) → bytes_eq (key_of s) (key_of step) ≡ b → place_of new (key_of s) ≡ Some n → slice_get (steps ++ step ∷ []) n ≡ Some s
    there s n true e h =
        let same : s ≡ step = same-key s step ((bytes_eq-Decides (key_of s) (key_of step)).0 e) in
        let p : Some n ≡ Some (length steps) = sym h ∙ (ap (λ x. place_of new (key_of x)) same ∙ own) in
        let m : n ≡ length steps = cc in
        ap (slice_get (steps ++ step ∷ [])) m ∙ (get-last steps step ∙ ap Some (sym same))
    there s n false e h =
        some-more steps step n s (k.there s n (sym (others (key_of s) (λ x. absurd (true≢false (sym ((bytes_eq-Decides (key_of s) (key_of step)).1 x) ∙ e)))) ∙ h))

    all : (s : Step) (n : ℕ) → (slice_get steps n ≡ Some s) ⊎ ((n ≡ length steps) × (s ≡ step)) → place_of new (key_of s) ≡ Some n
    all s n (inl e) =
        others (key_of s) (λ x. absurd (none (sym fresh ∙ (ap (place_of old) (sym x) ∙ k.all s n e)))) ∙ k.all s n e
      where
        none : None ≡ Some n → ⊥
        none h = cc
    all s n (inr (e, same)) = ap (λ x. place_of new (key_of x)) same ∙ (own ∙ ap Some (sym e))

pub row-same : (p q : ℕ) (t u e f : List ℕ) → p ≡ q → t ≡ u → e ≡ f → row p t e ≡ row q u f
row-same p q t u e f a b c = ap (λ x. row x t e) a ∙ (ap (λ x. row q x e) b ∙ ap (row q u) c)
