-- Two databases walked in parallel, and the assertions that both have.
use Rattle.std.specs.Prelude.{◌≡◌, ℕ, zero, suc, ◌+◌, ◌-◌, ◌<◌, ◌≤◌, true, false, List, [], ◌∷◌, ◌++◌, length, map, take, get_or, slice_get, Some, Result, Ok, Err, IfOk, refl}
use Rattle.std.proofs.Common.{sym, ◌∙◌, ap, subst, arith, inl, inr}
use Rattle.std.proofs.lemmas.Bool.{cases_eq}
use Rattle.std.proofs.lemmas.List.{map_more, take_more, take-map}
use Rattle.mm_lex.specs.Alphabet.{Name}
use Rattle.mm_read.specs.declared.stmt.Stmt.{Stmt}
use Rattle.mm_read.specs.declared.stmt.Stmt.TheVariants.{Open, Close, Const, Var, Disj, Float, Ess, Axiom, Prove}
use Rattle.mm_read.specs.Statements.{Database}
use Rattle.scope.specs.Active.{bare, bares, before, stmt_at, is_assertion}
use Rattle.frame.specs.Citations.{Carries}
use Rattle.frame.specs.FrameOf.{hypotheses, mandatory_groups, together}
use Rattle.frame.proofs.GroupsLemmas.{groups-pairs}
use Rattle.extract.specs.Parts.{IsPartOf, nothing, keeps, skips, HasSameAssertion}
use Rattle.extract.specs.Walk.{is_listed_assertion, HaveSameListedAssertions, IsSameFrame, IsWalked}

-- ---- the property of an answer

pub ok-one : {A E : Type 0} (r : Result A E) (P Q : A → Type 0) → IfOk r P → ((a : A) → P a → Q a) → IfOk r Q
ok-one (Ok a) P Q p f = f a p
ok-one (Err e) P Q p f = tt

pub ok-both : {A E : Type 0} (r : Result A E) (P Q R : A → Type 0) → IfOk r P → IfOk r Q → ((a : A) → P a → Q a → R a) → IfOk r R
ok-both (Ok a) P Q R p q f = f a p q
ok-both (Err e) P Q R p q f = tt

-- ---- parts

pub part-whole : (S : Database) → IsPartOf S S
part-whole [] = nothing
part-whole (s ∷ S) = keeps (part-whole S)

part-keep : (T S : Database) (s : Stmt) → IsPartOf T S → IsPartOf (T ++ s ∷ []) (S ++ s ∷ [])
part-keep T S s nothing = keeps nothing
part-keep T S s (keeps {part = T'} {whole = S'} p) = keeps (part-keep T' S' s p)
part-keep T S s (skips {whole = S'} p) = skips (part-keep T S' s p)

part-skip : (T S : Database) (s : Stmt) → IsPartOf T S → IsPartOf T (S ++ s ∷ [])
part-skip T S s nothing = skips nothing
part-skip T S s (keeps {part = T'} {whole = S'} p) = keeps (part-skip T' S' s p)
part-skip T S s (skips {whole = S'} p) = skips (part-skip T S' s p)

-- ---- statements by index

pub get-within : (T : Database) (k : ℕ) (s : Stmt) → slice_get T k ≡ Some s → (k < length T) × (s ≡ get_or T k s)
get-within [] k s e = absurd (let f = e in cc)
get-within (t ∷ T) zero s e = (omega arith, let same : t ≡ s = (let f = e in cc) in sym same)
get-within (t ∷ T) (suc k) s e = let g = get-within T k s e in let l = g.0 in (omega (arith, l), g.1)

pub get-some : (S : Database) (n : ℕ) (s d : Stmt) → n < length S → s ≡ get_or S n d → slice_get S n ≡ Some s
get-some [] n s d less e = absurd (omega (arith, less))
get-some (t ∷ S) zero s d less e = ap Some (sym e)
get-some (t ∷ S) (suc n) s d less e = get-some S n s d (omega (arith, less)) e

-- the first n statements and the next one are the first n + 1
longer : (S : Database) (n : ℕ) (s : Stmt) → n < length S → s ≡ get_or S n s → take (n + 1) S ≡ take n S ++ s ∷ []
longer S n s less is = take_more S n s less ∙ ap (λ r. take n S ++ r ∷ []) (sym is)

taken-more : (S : Database) (i : ℕ) (s : Stmt) → i < length S → s ≡ get_or S i s → bares (take (i + 1) S) ≡ bares (take i S) ++ bare s ∷ []
taken-more S i s less is = map_more bare S i s less ∙ ap (λ r. bares (take i S) ++ bare r ∷ []) (sym is)

before-is : (S : Database) (n : ℕ) → before (bares S) (suc n) ≡ bares (take n S)
before-is S n = ap (λ m. take m (bares S)) (let e : suc n - 1 ≡ n = omega arith in e) ∙ take-map bare n S

-- ---- the assertions that both have

pub listed-assertion : (labels : List Name) (s : Stmt) → is_listed_assertion labels s ≡ true → is_assertion s ≡ true
listed-assertion labels (Axiom label expr) h = refl
listed-assertion labels (Prove label expr proof) h = refl
listed-assertion labels Open h = cc
listed-assertion labels Close h = cc
listed-assertion labels (Const names) h = cc
listed-assertion labels (Var names) h = cc
listed-assertion labels (Disj names) h = cc
listed-assertion labels (Float label constant variable) h = cc
listed-assertion labels (Ess label expr) h = cc

assertions-more : (S T : Database) (labels : List Name) (n : ℕ) (s : Stmt) → HaveSameListedAssertions S T labels n → slice_get S n ≡ Some s → (is_listed_assertion labels s ≡ true → (label : Name) → Carries S (suc n) s label → HasSameAssertion S T label) → HaveSameListedAssertions S T labels (n + 1)
assertions-more S T labels n s earlier there here i r upto stands want label c = elim (cases_eq i (suc n)) [
  | inl same ↦ last same
  | inr apart ↦ earlier i r (omega (arith, upto, apart)) stands want label c
]
  where
    last : i ≡ suc n → HasSameAssertion S T label
    last e =
        let q : Some s ≡ Some r = sym there ∙ (ap (stmt_at S) (sym e) ∙ stands) in
        let is : s ≡ r = cc in
        here (ap (is_listed_assertion labels) is ∙ want) label (subst (λ p. Carries S (suc n) p label) (sym is) (subst (λ j. Carries S j r label) e c))

module _ (S T : Database) (labels : List Name) (n k : ℕ) (W P : Database) (w : IsWalked S T labels n k W P) where
  same-here : (s : Stmt) → slice_get T k ≡ Some s → is_assertion s ≡ true → IsSameFrame S T W P s → (label : Name) → Carries S (suc n) s label → HasSameAssertion S T label
  same-here s met kind f label c =
      record {
        stmt = s;
        whole_position = suc n;
        part_position = suc k;
        in_whole = c;
        in_part = record { stands = met; carried = c.carried };
        assertion = kind;
        hypotheses = ap (λ A. map (stmt_at S) (hypotheses A s)) (sym eW) ∙ (f.hypotheses ∙ ap (λ B. map (stmt_at T) (hypotheses B s)) eP);
        pairs = λ x y. sym (groups-pairs (before (bares S) (suc n)) s x y)
            ∙ (ap (λ gs. together gs x y) (ap (λ A. mandatory_groups A s) (sym eW) ∙ (f.groups ∙ ap (λ B. mandatory_groups B s) eP))
            ∙ groups-pairs (before (bares T) (suc k)) s x y);
      }
    where
      eW : W ≡ before (bares S) (suc n)
      eW = w.whole_is ∙ sym (before-is S n)

      eP : P ≡ before (bares T) (suc k)
      eP = w.part_is ∙ sym (before-is T k)

  pub walk-past : (s : Stmt) (W' : Database) → n < length S → s ≡ get_or S n s → is_listed_assertion labels s ≡ false → W' ≡ W ++ bare s ∷ [] → IsWalked S T labels (n + 1) k W' P
  walk-past s W' less is unlisted grown =
      record {
        whole_is = grown ∙ (ap (λ A. A ++ bare s ∷ []) w.whole_is ∙ sym (taken-more S n s less is));
        part_is = w.part_is;
        part_of = subst (IsPartOf (take k T)) (sym (longer S n s less is)) (part-skip (take k T) (take n S) s w.part_of);
        assertions = assertions-more S T labels n s w.assertions (get-some S n s s less is) (λ want. let f : true ≡ false = sym want ∙ unlisted in absurd (cc));
      }

  pub walk-both : (s : Stmt) (next : ℕ) (W' P' : Database) → n < length S → s ≡ get_or S n s → slice_get T k ≡ Some s → (is_listed_assertion labels s ≡ true → IsSameFrame S T W P s)
      → next ≡ k + 1 → W' ≡ W ++ bare s ∷ [] → P' ≡ P ++ bare s ∷ [] → IsWalked S T labels (n + 1) next W' P'
  walk-both s next W' P' less is met has_same_frame_if_listed at grown-whole grown-part =
      let g = get-within T k s met in
      subst (λ m. IsWalked S T labels (n + 1) m W' P') (sym at)
      (record {
        whole_is = grown-whole ∙ (ap (λ A. A ++ bare s ∷ []) w.whole_is ∙ sym (taken-more S n s less is));
        part_is = grown-part ∙ (ap (λ A. A ++ bare s ∷ []) w.part_is ∙ sym (taken-more T k s g.0 g.1));
        part_of = subst (λ U. IsPartOf U (take (n + 1) S)) (sym (longer T k s g.0 g.1)) (subst (IsPartOf (take k T ++ s ∷ [])) (sym (longer S n s less is)) (part-keep (take k T) (take n S) s w.part_of));
        assertions = assertions-more S T labels n s w.assertions (get-some S n s s less is) (λ want label c. same-here s met (listed-assertion labels s want) (has_same_frame_if_listed want) label c);
      })

pub walk-start : (S T : Database) (labels : List Name) (W P : Database) → W ≡ [] → P ≡ [] → IsWalked S T labels 0 0 W P
walk-start S T labels W P eW eP =
    record { whole_is = eW; part_is = eP; part_of = nothing; assertions = λ i s upto stands want label c. absurd (none i s upto stands) }
  where
    none : (i : ℕ) (s : Stmt) → i ≤ 0 → stmt_at S i ≡ Some s → ⊥
    none zero s upto stands = let f = stands in cc
    none (suc i) s upto stands = absurd (omega (arith, upto))
