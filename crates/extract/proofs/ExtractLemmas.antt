-- The result of an extraction is an extract: the part if the code finds it to be one, and the whole
-- list otherwise.
use Rattle.extract.proofs.Words.{◌≡◌, ◌||◌, ℕ, true, List, [], ◌∷◌, ◌++◌, length, Some, Result, Ok, Err, IfOk, refl, list_any, AllByRecursion, ◌∙◌, ap, subst, or_right, Name, name_eq, has_name, Stmt, Open, Close, Const, Var, Disj, Float, Ess, Axiom, Prove, Database, Reads, export_of, name_same, label_of, is_assertion, stands-within, Good, NamesAssertion, AreValidLabels, IsPartOf, HasSameAssertion, is_listed_assertion, HaveSameListedAssertions, IsExtract, part-whole}

-- ---- each label

-- a property of each assertion that a valid label names holds of each of the labels
every : (S : Database) (P : Name → Type 0) (earlier labels : List Name) → AreValidLabels S earlier labels → ((label : Name) → NamesAssertion S label → has_name label labels ≡ true → P label) → AllByRecursion P labels
every S P earlier [] valid holds = tt
every S P earlier (label ∷ labels) valid holds =
    (holds label valid.0.0 (ap (λ b. b || list_any (name_eq label) labels) (name_same label)), every S P (earlier ++ label ∷ []) labels valid.1 (λ l a h. holds l a (or_right (name_eq l label) (has_name l labels) h)))

listed-is : (labels : List Name) (s : Stmt) (label : Name) → is_assertion s ≡ true → label_of s ≡ Some label → has_name label labels ≡ true → is_listed_assertion labels s ≡ true
listed-is labels (Axiom l expr) label kind is h = ap (λ x. has_name x labels) (let same : l ≡ label = (let e = is in cc) in same) ∙ h
listed-is labels (Prove l expr proof) label kind is h = ap (λ x. has_name x labels) (let same : l ≡ label = (let e = is in cc) in same) ∙ h
listed-is labels Open label kind is h = let e = kind in cc
listed-is labels Close label kind is h = let e = kind in cc
listed-is labels (Const names) label kind is h = let e = kind in cc
listed-is labels (Var names) label kind is h = let e = kind in cc
listed-is labels (Disj names) label kind is h = let e = kind in cc
listed-is labels (Float l constant variable) label kind is h = let e = kind in cc
listed-is labels (Ess l expr) label kind is h = let e = kind in cc

-- ---- the part and the whole

extract-of : {A : Type 0} (bytes : A → List ℕ) (S T : Database) (labels : List Name) {E : Type 0} (r : Result A E) → AreValidLabels S [] labels → Good T → IsPartOf T S → HaveSameListedAssertions S T labels (length S)
    → IfOk r (λ text. bytes text ≡ export_of T) → IfOk r (λ text. Reads (bytes text) T) → IfOk r (λ text. IsExtract S labels (bytes text))
extract-of bytes S T labels (Err e) valid good part found_same written reads = tt
extract-of bytes S T labels (Ok text) valid good part found_same written reads =
    (T, written, reads, record { good = good; part = part; assertions = every S (HasSameAssertion S T) [] labels valid found })
  where
    found : (label : Name) → NamesAssertion S label → has_name label labels ≡ true → HasSameAssertion S T label
    found label a h = found_same a.position a.stmt (stands-within S a.position a.stmt a.carries.stands).1 a.carries.stands (listed-is labels a.stmt label a.assertion a.carries.carried h) label a.carries

pub extract-of-part : {A : Type 0} (bytes : A → List ℕ) (S T W P : Database) (labels : List Name) {E : Type 0} (r : Result A E) → W ≡ S → P ≡ T → AreValidLabels S [] labels → Good T → IsPartOf P W → HaveSameListedAssertions W P labels (length W)
    → IfOk r (λ text. bytes text ≡ export_of T) → IfOk r (λ text. Reads (bytes text) T) → IfOk r (λ text. IsExtract S labels (bytes text))
extract-of-part bytes S T W P labels r whole_is part_is valid good part found_same written reads =
    extract-of bytes S T labels r valid good (subst (λ U. IsPartOf U S) part_is (subst (IsPartOf P) whole_is part))
    (subst (λ U. HaveSameListedAssertions S U labels (length S)) part_is (subst (λ U. HaveSameListedAssertions U P labels (length U)) whole_is found_same)) written reads

pub extract-of-whole : {A : Type 0} (bytes : A → List ℕ) (S : Database) (labels : List Name) {E : Type 0} (r : Result A E) → AreValidLabels S [] labels → Good S
    → IfOk r (λ text. bytes text ≡ export_of S) → IfOk r (λ text. Reads (bytes text) S) → IfOk r (λ text. IsExtract S labels (bytes text))
extract-of-whole bytes S labels (Err e) valid good written reads = tt
extract-of-whole bytes S labels (Ok text) valid good written reads =
    (S, written, reads, record { good = good; part = part-whole S; assertions = every S (HasSameAssertion S S) [] labels valid (λ label a h. same label a) })
  where
    same : (label : Name) → NamesAssertion S label → HasSameAssertion S S label
    same label a = record { stmt = a.stmt; whole_position = a.position; part_position = a.position; in_whole = a.carries; in_part = a.carries; assertion = a.assertion; hypotheses = refl; pairs = λ x y. refl }
