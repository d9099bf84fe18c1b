-- Valid labels, and the fault of the first label that is not valid.
use Rattle.extract.proofs.Words.{◌≡◌, ℕ, ◌+◌, ◌<◌, ◌≤◌, true, false, List, [], ◌∷◌, ◌++◌, length, map, take, drop, get_or, option_map, Some, refl, sym, ◌∙◌, ap, subst, inl, inr, append_assoc, append-nil, take_all, length-map, get_or-map, take_more, drop_more, drop_all, take-map, take-append-drop, Name, Stmt, Open, Close, Const, Var, Disj, Float, Ess, Axiom, Prove, Database, bare, bares, stmt_at, is_assertion, stmt_at-bares, HasAssertion, HasLabelsOnce, one-place, ExtractFault, NoLabel, NotAssertion, SameLabel, Memory, NamesAssertion, NamesHypothesis, IsLabelFault, IsValidLabel, AreValidLabels, IsFirstLabelFault}

-- ---- a label of the list

label-at : {A : Type 0} (f : A → Name) (xs : List A) (n : ℕ) (x : A) (label : Name) → n < length xs → label ≡ f (get_or xs n x) → label ≡ get_or (map f xs) n label
label-at f xs n x label less e = e ∙ sym (get_or-map f xs n x label less)

-- ---- one more label

pub valid-last : (S : Database) (earlier front : List Name) (label : Name) → AreValidLabels S earlier front → IsValidLabel S (earlier ++ front) label → AreValidLabels S earlier (front ++ label ∷ [])
valid-last S earlier [] label rs r = (subst (λ e. IsValidLabel S e label) (append-nil earlier) r, tt)
valid-last S earlier (x ∷ xs) label rs r =
    (rs.0, valid-last S (earlier ++ x ∷ []) xs label rs.1 (subst (λ e. IsValidLabel S e label) (sym (append_assoc earlier (x ∷ []) xs)) r))

first-at : (S : Database) (earlier front : List Name) (label : Name) (rest : List Name) (f : ExtractFault) → AreValidLabels S earlier front → IsLabelFault S (earlier ++ front) label f → IsFirstLabelFault S earlier (front ++ label ∷ rest) f
first-at S earlier [] label rest f rs w = inl (subst (λ e. IsLabelFault S e label f) (append-nil earlier) w)
first-at S earlier (x ∷ xs) label rest f rs w =
    inr (rs.0, first-at S (earlier ++ x ∷ []) xs label rest f rs.1 (subst (λ e. IsLabelFault S e label f) (sym (append_assoc earlier (x ∷ []) xs)) w))

-- the first n labels are valid
pub record AreFirstValid (S : Database) (labels : List Name) (n : ℕ) : Type 0 where
  pub valid : AreValidLabels S [] (take n labels)
  pub rest : (f : ExtractFault) → IsFirstLabelFault S [] labels f → IsFirstLabelFault S (take n labels) (drop n labels) f

-- ---- no label is judged in two ways

module _ (S F : Database) (same : F ≡ bares S) (once : HasLabelsOnce F) where
  one-kind : (label : Name) → NamesAssertion S label → NamesHypothesis S label → ⊥
  one-kind label a h =
      let e : a.position ≡ h.position = one-place S F same label a.position h.position a.stmt h.stmt once a.carries h.carries in
      let stands : Some a.stmt ≡ Some h.stmt = sym a.carries.stands ∙ (ap (stmt_at S) e ∙ h.carries.stands) in
      clash a.stmt h.stmt stands a.assertion h.other
    where
      clash : (s r : Stmt) → Some s ≡ Some r → is_assertion s ≡ true → is_assertion r ≡ false → ⊥
      clash s r e p q = let same : s ≡ r = cc in let f : true ≡ false = sym p ∙ (ap is_assertion same ∙ q) in absurd (cc)

  pub valid-fault : (earlier : List Name) (label : Name) (f : ExtractFault) → IsValidLabel S earlier label → IsLabelFault S earlier label f → ⊥
  valid-fault earlier label NoLabel r w = w r.0.position r.0.stmt r.0.carries
  valid-fault earlier label NotAssertion r w = one-kind label r.0 w
  valid-fault earlier label SameLabel r w = let f : true ≡ false = sym w.1 ∙ r.1 in absurd (cc)
  valid-fault earlier label Memory r w = w

  fault-one : (earlier : List Name) (label : Name) (f g : ExtractFault) → IsLabelFault S earlier label f → IsLabelFault S earlier label g → f ≡ g
  fault-one earlier label NoLabel NoLabel v w = refl
  fault-one earlier label NoLabel NotAssertion v w = absurd (v w.position w.stmt w.carries)
  fault-one earlier label NoLabel SameLabel v w = absurd (v w.0.position w.0.stmt w.0.carries)
  fault-one earlier label NotAssertion NoLabel v w = absurd (w v.position v.stmt v.carries)
  fault-one earlier label NotAssertion NotAssertion v w = refl
  fault-one earlier label NotAssertion SameLabel v w = absurd (one-kind label w.0 v)
  fault-one earlier label SameLabel NoLabel v w = absurd (w v.0.position v.0.stmt v.0.carries)
  fault-one earlier label SameLabel NotAssertion v w = absurd (one-kind label v.0 w)
  fault-one earlier label SameLabel SameLabel v w = refl
  fault-one earlier label Memory g v w = absurd v
  fault-one earlier label f Memory v w = absurd w

  -- ---- the loop over the labels

  pub first-more : (labels : List Name) (n : ℕ) (label : Name) → n < length labels → label ≡ get_or labels n label → AreFirstValid S labels n → IsValidLabel S (take n labels) label → AreFirstValid S labels (n + 1)
  first-more labels n label less is p r =
      record {
        valid = subst (AreValidLabels S []) (sym longer) (valid-last S [] (take n labels) label p.valid r);
        rest = λ f w. subst (λ e. IsFirstLabelFault S e (drop (n + 1) labels) f) (sym longer) (beyond f (subst (λ ls. IsFirstLabelFault S (take n labels) ls f) here (p.rest f w)));
      }
    where
      longer : take (n + 1) labels ≡ take n labels ++ label ∷ []
      longer = take_more labels n label less ∙ ap (λ l. take n labels ++ l ∷ []) (sym is)

      here : drop n labels ≡ label ∷ drop (n + 1) labels
      here = drop_more labels n label less ∙ ap (λ l. l ∷ drop (n + 1) labels) (sym is)

      beyond : (f : ExtractFault) → IsFirstLabelFault S (take n labels) (label ∷ drop (n + 1) labels) f → IsFirstLabelFault S (take n labels ++ label ∷ []) (drop (n + 1) labels) f
      beyond f (inl w) = absurd (valid-fault (take n labels) label f r w)
      beyond f (inr q) = q.1

  pub first-fault : (labels : List Name) (n : ℕ) (label : Name) (g : ExtractFault) → n < length labels → label ≡ get_or labels n label → AreFirstValid S labels n → IsLabelFault S (take n labels) label g → IsFirstLabelFault S [] labels g
  first-fault labels n label g less is p w =
      subst (λ ls. IsFirstLabelFault S [] ls g) (sym whole) (first-at S [] (take n labels) label (drop (n + 1) labels) g p.valid w)
    where
      whole : labels ≡ take n labels ++ label ∷ drop (n + 1) labels
      whole = sym (take-append-drop n labels) ∙ ap (λ r. take n labels ++ r) (drop_more labels n label less ∙ ap (λ l. l ∷ drop (n + 1) labels) (sym is))

  pub first-only : (labels : List Name) (n : ℕ) (label : Name) (g f : ExtractFault) → n < length labels → label ≡ get_or labels n label → AreFirstValid S labels n → IsLabelFault S (take n labels) label g → IsFirstLabelFault S [] labels f → g ≡ f
  first-only labels n label g f less is p w first =
      by (subst (λ ls. IsFirstLabelFault S (take n labels) ls f) (drop_more labels n label less ∙ ap (λ l. l ∷ drop (n + 1) labels) (sym is)) (p.rest f first))
    where
      by : IsFirstLabelFault S (take n labels) (label ∷ drop (n + 1) labels) f → g ≡ f
      by (inl v) = fault-one (take n labels) label g f w v
      by (inr q) = absurd (valid-fault (take n labels) label g q.0 w)

  -- the same, if the labels are the names of the elements of a list

  module _ {A : Type 0} (f : A → Name) (xs : List A) (n : ℕ) (x : A) (label : Name) (less : n < length xs) (e : label ≡ f (get_or xs n x)) (p : AreFirstValid S (map f xs) n) where
    -- the index is within the names
    inside : n < length (map f xs)
    inside = subst (λ m. n < m) (sym (length-map xs f)) less

    -- the names of the first elements are the first names
    front : map f (take n xs) ≡ take n (map f xs)
    front = sym (take-map f n xs)

    pub label-valid : IsValidLabel S (map f (take n xs)) label → AreFirstValid S (map f xs) (n + 1)
    label-valid r = first-more (map f xs) n label inside (label-at f xs n x label less e) p (subst (λ es. IsValidLabel S es label) front r)

    pub label-fault : (g : ExtractFault) → IsLabelFault S (map f (take n xs)) label g → IsFirstLabelFault S [] (map f xs) g
    label-fault g w = first-fault (map f xs) n label g inside (label-at f xs n x label less e) p (subst (λ es. IsLabelFault S es label g) front w)

    pub label-only : (g h : ExtractFault) → IsLabelFault S (map f (take n xs)) label g → IsFirstLabelFault S [] (map f xs) h → g ≡ h
    label-only g h w first = first-only (map f xs) n label g h inside (label-at f xs n x label less e) p (subst (λ es. IsLabelFault S es label g) front w) first

  pub first-all : (labels : List Name) (n : ℕ) → length labels ≤ n → AreFirstValid S labels n → AreValidLabels S [] labels
  first-all labels n over p = subst (AreValidLabels S []) (take_all n labels over) p.valid

  pub first-end : (labels : List Name) (n : ℕ) (f : ExtractFault) → length labels ≤ n → AreFirstValid S labels n → IsFirstLabelFault S [] labels f → ⊥
  first-end labels n f over p first = subst (λ ls. IsFirstLabelFault S (take n labels) ls f) (drop_all n labels over) (p.rest f first)

-- ---- an assertion at a position

bare-kind : (s : Stmt) → is_assertion s ≡ true → is_assertion (bare s) ≡ true
bare-kind (Axiom label expr) h = refl
bare-kind (Prove label expr proof) h = refl
bare-kind Open h = h
bare-kind Close h = h
bare-kind (Const names) h = h
bare-kind (Var names) h = h
bare-kind (Disj names) h = h
bare-kind (Float label constant variable) h = h
bare-kind (Ess label expr) h = h

pub has-assertion : (S F : Database) (at : ℕ) (s : Stmt) → F ≡ bares S → Some s ≡ stmt_at S at → is_assertion s ≡ true → (r : Stmt) × HasAssertion F at r
has-assertion S F at s same found kind =
    (bare s, (ap (λ U. stmt_at U at) same ∙ (stmt_at-bares S at ∙ ap (option_map bare) (sym found)), bare-kind s kind))
