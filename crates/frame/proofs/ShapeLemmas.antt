-- What is active does not depend on the names in statements, so it is told by entries alone.
use Rattle.frame.proofs.Words.{◌≡◌, ◌∙◌, ap, sym, arith, refl, ℕ, zero, suc, ◌+◌, ◌-◌, ◌≤◌, ◌&&◌, Bool, true, false, cond, List, [], ◌∷◌, length, map, filter, take, drop, take-map, length-map, nat_le, nat_lt, slice_get, Some, Name, Expr, name_at, decode, Stmt, Database, Entry, Kind, Disj, Var, LastActive, last_active_of, is_var, is_disj, length-take, subst, Storage, AreStored, is_open, is_active, stays_open, active_from, actives, actives_from, last_position, last_active_of_kind, has_code, having_after, positions_with, kind_test, stmt_by, stmt_of, names_in, labels_in, statements_of, shapes_of, ArePlaced, IsLastActive, IsUpTo, is_entry_of, is_open_at, passes, stands, IsPlain, slice_get-map, option_map, ◌<◌}
use Rattle.std.proofs.lemmas.List.{drop-map}
use Rattle.entries.specs.declared.kind.Kind.TheVariants as kind
use Rattle.frame.proofs.BlockWalkLemmas.{last-within}
use Rattle.frame.proofs.EndLemmas.{told-by}
use Rattle.frame.proofs.StoredReading.{get-stmt}

abbrev shape : Entry → Stmt
shape e = stmt_by e.kind [] []

pub shape-test : (table q : Kind) → kind_test table (stmt_by q [] []) ≡ is_entry_of table q
shape-test Disj Disj = refl
shape-test Disj q = refl
shape-test table Var = refl
shape-test table q = refl

module _ (names labels : List Name) where
  abbrev full : Entry → Stmt
  full e = stmt_of names labels e

  abbrev full_label : Entry → Name
  full_label e = name_at labels e.label_count

  abbrev full_names : Entry → Expr
  full_names e = decode names e.symbols

  stays-shape : (d : ℕ) (es : List Entry) → stays_open d (map full es) ≡ stays_open d (shapes_of es)
  stays-shape d [] = refl
  stays-shape d (e ∷ es) = by e.kind d (λ k. stays-shape k es)
    where
      by : (q : Kind) (d : ℕ) → ((k : ℕ) → stays_open k (map full es) ≡ stays_open k (shapes_of es)) → stays_open d (stmt_by q (full_label e) (full_names e) ∷ map full es) ≡ stays_open d (stmt_by q [] [] ∷ shapes_of es)
      by kind.Open d r = r (suc d)
      by kind.Close zero r = refl
      by kind.Close (suc d) r = r d
      by q d r = r d

  is_active-shape : (es : List Entry) (i at : ℕ) → is_active (map full es) i at ≡ is_active (shapes_of es) i at
  is_active-shape es i at =
      ap (λ b. nat_le 1 i && nat_lt i at && b)
      (ap (λ T. stays_open 0 (take (at - 1 - i) T)) (drop-map full i es)
      ∙ (ap (stays_open 0) (take-map full (at - 1 - i) (drop i es))
      ∙ (stays-shape 0 (take (at - 1 - i) (drop i es))
      ∙ sym (ap (λ T. stays_open 0 (take (at - 1 - i) T)) (drop-map shape i es) ∙ ap (stays_open 0) (take-map shape (at - 1 - i) (drop i es))))))

  -- the active statements of a kind are at the same positions
  module _ (kind : Stmt → Bool) (same : (e : Entry) → kind (full e) ≡ kind (shape e)) where
    abbrev firsts : List (ℕ × Stmt) → List ℕ
    firsts ps = map (λ p. p.0) ps

    firsts-shape : (at : ℕ) (es : List Entry) → firsts (actives_from kind at (map full es)) ≡ firsts (actives_from kind at (shapes_of es))
    firsts-shape at [] = refl
    firsts-shape at (e ∷ es) = rw (stays-shape 0 es) (by (stays_open 0 (shapes_of es)) (firsts-shape (at + 1) es))
      where
        one : (b : Bool) → firsts (actives_from kind (at + 1) (map full es)) ≡ firsts (actives_from kind (at + 1) (shapes_of es))
            → firsts (cond b ((at, full e) ∷ actives_from kind (at + 1) (map full es)) (actives_from kind (at + 1) (map full es))) ≡ firsts (cond b ((at, shape e) ∷ actives_from kind (at + 1) (shapes_of es)) (actives_from kind (at + 1) (shapes_of es)))
        one true r = ap (λ l. at ∷ l) r
        one false r = r

        by : (b : Bool) → firsts (actives_from kind (at + 1) (map full es)) ≡ firsts (actives_from kind (at + 1) (shapes_of es))
            → firsts (filter (λ p. kind p.1) (cond b ((at, full e) ∷ active_from (at + 1) (map full es)) (active_from (at + 1) (map full es)))) ≡ firsts (filter (λ p. kind p.1) (cond b ((at, shape e) ∷ active_from (at + 1) (shapes_of es)) (active_from (at + 1) (shapes_of es))))
        by true r = rw (same e) (one (kind (shape e)) r)
        by false r = r

    having-firsts : (found : List ℕ) (es : List Entry) (c : ℕ) (ps qs : List (ℕ × Stmt)) → firsts ps ≡ firsts qs → having_after found es c ps ≡ having_after found es c qs
    having-firsts found es c [] [] e = refl
    having-firsts found es c [] (q ∷ qs) e = cc
    having-firsts found es c (p ∷ ps) [] e = cc
    having-firsts found es c (p ∷ ps) (q ∷ qs) e =
        let place : p.0 ≡ q.0 = cc in
        ap (λ n. having_after (cond (has_code es c n) (n ∷ found) found) es c ps) place ∙ having-firsts (cond (has_code es c q.0) (q.0 ∷ found) found) es c ps qs (cc)

    last-firsts : (ps qs : List (ℕ × Stmt)) → firsts ps ≡ firsts qs → last_position ps ≡ last_position qs
    last-firsts [] [] e = refl
    last-firsts [] (q ∷ qs) e = cc
    last-firsts (p ∷ ps) [] e = cc
    last-firsts (p ∷ []) (q ∷ []) e = cc
    last-firsts (p ∷ []) (q ∷ t ∷ qs) e = cc
    last-firsts (p ∷ r ∷ ps) (q ∷ []) e = cc
    last-firsts (p ∷ r ∷ ps) (q ∷ t ∷ qs) e = last-firsts (r ∷ ps) (t ∷ qs) (cc)

    pub with-shape : (fs es : List Entry) (c n : ℕ) → positions_with fs c (actives kind (take n (map full es))) ≡ positions_with fs c (actives kind (take n (shapes_of es)))
    with-shape fs es c n =
        ap (λ T. positions_with fs c (actives kind T)) (take-map full n es)
        ∙ (having-firsts [] fs c (actives kind (map full (take n es))) (actives kind (shapes_of (take n es))) (firsts-shape 1 (take n es)) ∙ ap (λ T. positions_with fs c (actives kind T)) (sym (take-map shape n es)))

    pub last-shape : (es : List Entry) → last_active_of_kind kind (map full es) ≡ last_active_of_kind kind (shapes_of es)
    last-shape es = last-firsts (actives kind (map full es)) (actives kind (shapes_of es)) (firsts-shape 1 es)

  table-kind : (table : Kind) (e : Entry) → kind_test table (full e) ≡ kind_test table (shape e)
  table-kind table e = by table e.kind
    where
      by : (of q : Kind) → kind_test of (stmt_by q (full_label e) (full_names e)) ≡ kind_test of (stmt_by q [] [])
      by Disj Disj = refl
      by Disj q = refl
      by of Var = refl
      by of q = refl

  open-same : (e : Entry) → is_open (full e) ≡ is_open (shape e)
  open-same e = by e.kind
    where
      by : (q : Kind) → is_open (stmt_by q (full_label e) (full_names e)) ≡ is_open (stmt_by q [] [])
      by kind.Open = refl
      by q = refl

-- ---- a statement of a table is active by the end of its block

module _ (table : Kind) (es : List Entry) (ends : List ℕ) (p at : ℕ) (e : Entry) (got : slice_get es (p - 1) ≡ Some e) where
  passing : passes (kind_test table) (slice_get (shapes_of es) (p - 1)) ≡ is_entry_of table e.kind
  passing = ap (passes (kind_test table)) (slice_get-map shape es (p - 1) ∙ ap (option_map shape) got) ∙ shape-test table e.kind

  pub stands-other : is_entry_of table e.kind ≡ false → stands table (shapes_of es) p at ≡ false
  stands-other other = ap (λ b. b && is_active (shapes_of es) p at) (passing ∙ other)

  pub stands-told : ArePlaced es ends → is_entry_of table e.kind ≡ true → 1 ≤ p → p < at → at ≤ length es + 1 → stands table (shapes_of es) p at ≡ is_open_at ends e.last_active.block at
  stands-told placed of one lt le =
      let up : p - 1 + 1 ≡ p = omega (arith, one) in
      ap (λ b. b && is_active (shapes_of es) p at) (passing ∙ of) ∙ (ap (λ n. is_active (shapes_of es) n at) (sym up) ∙ placed.told table (p - 1) at e got of (omega (arith, one, lt)) le)

-- ---- what a storage tells by its entries

module _ (k : Storage) where
  abbrev N : List Name
  N = names_in k

  abbrev L : List Name
  L = labels_in k

  -- the active `$d` (`$v`) that have a symbol
  pub active-stored : (table : Kind) (c n : ℕ) → positions_with k.entries c (actives (kind_test table) (take n (statements_of k))) ≡ positions_with k.entries c (actives (kind_test table) (take n (shapes_of k.entries)))
  active-stored table c n = with-shape N L (kind_test table) (table-kind N L table) k.entries k.entries c n

  up-to : (l : LastActive) (i : ℕ) (S : Database) → l ≡ last_active_of S → length S ≤ i → IsUpTo i l
  up-to l i S is size = rw is (record { block = omega (arith, size, last-within is_open S refl); variable = omega (arith, size, last-within is_var S refl); disjoint = omega (arith, size, last-within is_disj S refl) })

  plain-kind : (table q : Kind) (label : Name) (names : Expr) → is_entry_of table q ≡ true → IsPlain (Some (stmt_by q label names))
  plain-kind table Disj label names h = (refl, refl)
  plain-kind table Var label names h = (refl, refl)
  plain-kind Disj q label names h = cc
  plain-kind table q label names h = cc

  module _ (stored : AreStored k) where
    abbrev S : Database
    S = statements_of k

    many : length S ≡ length k.entries
    many = length-map k.entries (stmt_of N L)

    pub stored-placed : ArePlaced k.entries k.ends.items
    stored-placed = record {
      count = stored.ended.count ∙ many;
      earlier = λ i e got. up-to e.last_active i (take i S) (stored.kept.linked i e got) (omega (arith, length-take {A = Stmt}));
      told = λ table i at e got of above within.
          let back : i + 1 - 1 ≡ i = omega arith in
          let there : slice_get S (i + 1 - 1) ≡ Some (stmt_of N L e) = ap (slice_get S) back ∙ get-stmt N L k.entries i e got in
          sym (is_active-shape N L k.entries (i + 1) at)
          ∙ (told-by k.ends.items S (i + 1) at e.last_active.block (slice_get S (i + 1 - 1)) stored.ended stored.kept.stays refl (subst IsPlain (sym there) (plain-kind table e.kind (full_label N L e) (full_names N L e) of)) (omega arith) above (omega (arith, within, many))
          (ap (λ l. l.block) (stored.kept.linked i e got) ∙ ap (λ n. last_active_of_kind is_open (take n S)) (sym back))).told;
    }

    pub stored-last : IsLastActive k.entries k.last_active
    stored-last = record {
      opened = ap (λ l. l.block) stored.kept.last ∙ last-shape N L is_open (open-same N L) k.entries;
      earlier = up-to k.last_active (length k.entries) S stored.kept.last (omega (arith, many));
    }
