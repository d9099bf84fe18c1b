-- The mentions of a symbol after a statement is appended, and of the first statements alone.
use Rattle.frame.proofs.Words.{◌≡◌, ◌∙◌, ap, sym, subst, arith, inl, inr, ℕ, ◌+◌, ◌-◌, ◌<◌, ◌≤◌, ◌⊎◌, Bool, true, false, cond, nat_eq, List, [], ◌∷◌, ◌++◌, length, take, take_all, take-append-le, take-append_seam, length-append, slice_get, slice_get_within, same_Some, Some, AreBelow, Stmt, Database, Entry, is_close, actives, has_code, positions_with, IsOfKind, get-last, get-more, get-push, list_any, option_symbols, cases_lt, having_after, length-take-le, take-get, take-take}
use Rattle.frame.proofs.BlockWalkLemmas.{get-take}
use Rattle.frame.proofs.LastActiveLemmas.{actives-push}
use Rattle.frame.proofs.MentionWalkLemmas.{tail-same}
use Rattle.entries.proofs.MentionLemmas.{kept-below, kept-first, kept-has, mentions-front, mentions-more}
use Rattle.entries.specs.Mentions.{AreMentions, IsUntil, kept_until, positions_of}
use Rattle.entries.specs.declared.mentions.Mention.{Mention}
use Rattle.frame.proofs.PositionsWith.{AreIn, actives-in, positions_with-front, positions_with-push}
use Rattle.frame.specs.Stored.MentionLists.{IsListOf, IsMentionedAt, IsSound, IsTail}
use Rattle.frame.proofs.SymbolNumberLemmas.{below-more}

get-before : {A : Type 0} (xs : List A) (x : A) (i : ℕ) → i < length xs → slice_get (xs ++ x ∷ []) i ≡ slice_get xs i
get-before xs x i lt = sym (get-take i (length xs) (xs ++ x ∷ []) lt) ∙ ap (λ ys. slice_get ys i) (take-append_seam xs (x ∷ []))

having-below : (n : ℕ) (found : List ℕ) (es : List Entry) (c : ℕ) (ps : List (ℕ × Stmt)) → AreBelow (n + 1) found → AreIn 1 n ps → AreBelow (n + 1) (having_after found es c ps)
having-below n found es c [] all within = all
having-below n found es c (p ∷ ps) all within = having-below n (cond (has_code es c p.0) (p.0 ∷ found) found) es c ps (by (has_code es c p.0)) within.1
  where
    by : (b : Bool) → AreBelow (n + 1) (cond b (p.0 ∷ found) found)
    by true = (let le = within.0.1 in omega (arith, le), all)
    by false = all

-- positions of active statements are within the statements
pub with-below : (kind : Stmt → Bool) (es : List Entry) (c : ℕ) (S : Database) → AreBelow (length S + 1) (positions_with es c (actives kind S))
with-below kind es c S = having-below (length S) [] es c (actives kind S) tt (actives-in kind 1 1 (length S) S (omega arith) (omega arith))

module _ (kind : Stmt → Bool) (es : List Entry) (S : Database) (e : Entry) (s : Stmt) (c : ℕ) (list : List Mention) (is : IsListOf kind es S c list) (size : length es ≡ length S) where
  abbrev es' : List Entry
  es' = es ++ e ∷ []

  abbrev S' : Database
  S' = S ++ s ∷ []

  -- an earlier statement has the symbol as before
  code-as : (p : ℕ) → 1 ≤ p → p ≤ length S → has_code es' c p ≡ has_code es c p
  code-as p one le = ap (λ o. list_any (λ x. nat_eq c x) (option_symbols o)) (get-before es e (p - 1) (omega (arith, one, le, size)))

  kind-as : (p : ℕ) → p ≤ length S → IsOfKind kind S' p → IsOfKind kind S p
  kind-as p le o = record { one = o.one; statement = o.statement; stands = sym (get-before S s (p - 1) (let one = o.one in omega (arith, one, le))) ∙ o.stands; of_kind = o.of_kind }

  -- what is active after the first statements is found as before
  with-as : (p : ℕ) → p ≤ length S → positions_with es' c (actives kind (take p S')) ≡ positions_with es c (actives kind (take p S))
  with-as p le =
      ap (λ T. positions_with es' c (actives kind T)) (take-append-le p S (s ∷ []) le)
      ∙ (sym (positions_with-front kind es' c (length es) p S (omega (arith, le, size))) ∙ ap (λ fs. positions_with fs c (actives kind (take p S))) (take-append_seam es (e ∷ [])))

  sound-as : (m : Mention) → m.position ≤ length S → IsSound kind es S c list m → IsSound kind es' S' c list m
  sound-as m within a = record {
    one = a.one;
    has = λ o. code-as m.position a.one within ∙ a.has (kind-as m.position within o);
    lower = a.lower;
    leads = subst (λ xs. IsTail xs (m.position ∷ positions_of (take m.beneath list))) (sym (with-as m.position within)) a.leads;
  }

  -- the mentions by the new statement are sound, and it has one if it is of the kind and has the
  -- symbol
  pub list-next : ((i : ℕ) (m : Mention) → slice_get list i ≡ Some m → m.position ≡ length S + 1 → IsSound kind es' S' c list m) → (kind s ≡ true → has_code es' c (length S + 1) ≡ true → IsMentionedAt (length S + 1) list)
      → IsListOf kind es' S' c list
  list-next new own = record {
    mentions = is.mentions;
    sound = λ i m got low. sound-by i m got low (cases_lt (length S) m.position);
    complete = λ p o has. by p o has (cases_lt (length S) p);
  }
    where
      sound-by : (i : ℕ) (m : Mention) → slice_get list i ≡ Some m → m.position ≤ length S' → (length S < m.position) ⊎ (m.position ≤ length S) → IsSound kind es' S' c list m
      sound-by i m got low (inr le) = sound-as m le (is.sound i m got le)
      sound-by i m got low (inl lt) = new i m got (omega (arith, lt, low, length-append S (s ∷ [])))

      by : (p : ℕ) → IsOfKind kind S' p → has_code es' c p ≡ true → (length S < p) ⊎ (p ≤ length S) → (i : ℕ) × (m : Mention) × (slice_get list i ≡ Some m) × (m.position ≡ p)
      by p o has (inr le) = is.complete p (kind-as p le o) (sym (code-as p o.one le) ∙ has)
      by p o has (inl lt) =
          let within = slice_get_within S' (p - 1) o.statement o.stands in
          let place : p ≡ length S + 1 = omega (arith, lt, within, length-append S (s ∷ [])) in
          let last : s ≡ o.statement = same_Some s o.statement (sym (get-last S s) ∙ (ap (slice_get S') (omega (arith, place)) ∙ o.stands)) in
          let r = own (ap kind last ∙ o.of_kind) (ap (has_code es' c) (sym place) ∙ has) in
          (r.0, r.1, r.2, r.3 ∙ sym place)

  -- a statement of the kind with the symbol, above what is active before it
  pub sound-own : (m : Mention) → m.position ≡ length S + 1 → positions_of (take m.beneath list) ≡ positions_with es c (actives kind S) → kind s ≡ true → is_close s ≡ false → has_code es' c (length S + 1) ≡ true → IsSound kind es' S' c list m
  sound-own m place beneath of_kind stays has =
      let all : take m.position S' ≡ S' = take_all m.position S' (omega (arith, place, length-append S (s ∷ []))) in
      let at : 1 + length S ≡ m.position = omega (arith, place) in
      let old : positions_with es' c (actives kind S) ≡ positions_with es c (actives kind S) =
      ap (λ T. positions_with es' c (actives kind T)) (sym (take-append_seam S (s ∷ []))) ∙ (with-as (length S) (omega arith) ∙ ap (λ T. positions_with es c (actives kind T)) (take_all (length S) S (omega arith))) in
      let next : positions_with es' c (actives kind (take m.position S')) ≡ m.position ∷ positions_with es c (actives kind S) =
      ap (λ T. positions_with es' c (actives kind T)) all
      ∙ (ap (positions_with es' c) (actives-push kind S s stays ∙ (ap (λ b. actives kind S ++ cond b ((1 + length S, s) ∷ []) []) of_kind ∙ ap (λ n. actives kind S ++ (n, s) ∷ []) at))
      ∙ (positions_with-push es' c (actives kind S) (m.position, s)
      ∙ (ap (λ b. cond b (m.position ∷ positions_with es' c (actives kind S)) (positions_with es' c (actives kind S))) (ap (has_code es' c) place ∙ has) ∙ ap (λ xs. m.position ∷ xs) old))) in
      record {
        one = omega (arith, place);
        has = λ o. ap (has_code es' c) place ∙ has;
        lower = subst (AreBelow m.position) (sym beneath) (subst (λ n. AreBelow n (positions_with es c (actives kind S))) (sym place) (with-below kind es c S));
        leads = inl (next ∙ ap (λ xs. m.position ∷ xs) (sym beneath));
      }

  -- a `$}`, above what is active after it
  pub sound-mark : (m : Mention) → m.position ≡ length S + 1 → kind s ≡ false → (from : ℕ) → from ≤ length S → positions_of (take m.beneath list) ≡ positions_with es c (actives kind (take from S)) → actives kind S' ≡ actives kind (take from S)
      → IsSound kind es' S' c list m
  sound-mark m place other from low beneath after =
      let all : take m.position S' ≡ S' = take_all m.position S' (omega (arith, place, length-append S (s ∷ []))) in
      let front : positions_with es' c (actives kind (take from S)) ≡ positions_with es c (actives kind (take from S)) =
      ap (λ T. positions_with es' c (actives kind T)) (sym (take-append-le from S (s ∷ []) low)) ∙ with-as from low in
      record {
        one = omega (arith, place);
        has = λ o. absurd (let yes = ap kind (same_Some s o.statement (sym (get-last S s) ∙ (ap (slice_get S') (omega (arith, place)) ∙ o.stands))) ∙ o.of_kind in cc);
        lower = subst (AreBelow m.position) (sym beneath)
            (below-more (length (take from S) + 1) m.position (positions_with es c (actives kind (take from S))) (omega (arith, place, low, length-take-le from S low)) (with-below kind es c (take from S)));
        leads = inr (subst (IsTail (positions_with es' c (actives kind (take m.position S')))) (sym (beneath ∙ sym (ap (λ T. positions_with es' c (actives kind T)) all ∙ (ap (positions_with es' c) after ∙ front)))) (tail-same _));
      }

-- one mention more, by a later statement
pub list-over : (kind : Stmt → Bool) (es : List Entry) (S : Database) (c : ℕ) (list : List Mention) (m : Mention) → IsListOf kind es S c list → length S < m.position → m.beneath ≤ length list → IsUntil m.position list → IsListOf kind es S c (list ++ m ∷ [])
list-over kind es S c list m is late le until = record {
  mentions = mentions-more list m is.mentions le until;
  sound = λ i u got low. by i u low (get-push list m u i got);
  complete = λ p o has. let r = is.complete p o has in (r.0, r.1, get-more list (m ∷ []) r.0 r.1 r.2, r.3);
}
  where
    by : (i : ℕ) (u : Mention) → u.position ≤ length S → ((i < length list) × (slice_get list i ≡ Some u)) ⊎ ((i ≡ length list) × (m ≡ u)) → IsSound kind es S c (list ++ m ∷ []) u
    by i u low (inl old) =
        let a = is.sound i u old.1 low in
        let linked = is.mentions.linked i u old.1 in
        let same : take u.beneath (list ++ m ∷ []) ≡ take u.beneath list = take-append-le u.beneath list (m ∷ []) (omega (arith, linked, old.0)) in
        record {
          one = a.one;
          has = a.has;
          lower = subst (λ l. AreBelow u.position (positions_of l)) (sym same) a.lower;
          leads = subst (λ l. IsTail (positions_with es c (actives kind (take u.position S))) (u.position ∷ positions_of l)) (sym same) a.leads;
        }
    by i u low (inr new) = let same = ap (λ (v : Mention). v.position) new.1 in absurd (omega (arith, low, late, same))

-- ---- the first statements alone

module _ (kind : Stmt → Bool) (es : List Entry) (S : Database) (c : ℕ) (list : List Mention) (is : IsListOf kind es S c list) (n : ℕ) (le : n ≤ length S) where
  cut : (k : ℕ) × (kept_until n list ≡ take k list)
  cut = kept-first n list is.mentions.ordered

  code-first : (p : ℕ) → 1 ≤ p → p ≤ n → has_code (take n es) c p ≡ has_code es c p
  code-first p one low = ap (λ o. list_any (λ x. nat_eq c x) (option_symbols o)) (get-take (p - 1) n es (omega (arith, one, low)))

  kind-first : (p : ℕ) → IsOfKind kind (take n S) p → IsOfKind kind S p × (p ≤ n)
  kind-first p o =
      let g = take-get n (p - 1) S o.statement o.stands in
      let lt = g.0 in
      (record { one = o.one; statement = o.statement; stands = g.1; of_kind = o.of_kind }, omega (arith, lt))

  with-first : (p : ℕ) → p ≤ n → positions_with (take n es) c (actives kind (take p (take n S))) ≡ positions_with es c (actives kind (take p S))
  with-first p low = ap (λ T. positions_with (take n es) c (actives kind T)) (take-take p n S low) ∙ positions_with-front kind es c n p S low

  sound-first : (i : ℕ) (m : Mention) → slice_get list i ≡ Some m → i < cut.0 → m.position ≤ n → IsSound kind (take n es) (take n S) c (kept_until n list) m
  sound-first i m got lt low =
      let a = is.sound i m got (omega (arith, low, le)) in
      let one = a.one in
      let linked = is.mentions.linked i m got in
      let same : take m.beneath (kept_until n list) ≡ take m.beneath list = ap (take m.beneath) cut.1 ∙ take-take m.beneath cut.0 list (omega (arith, lt, linked)) in
      record {
        one = one;
        has = λ o. code-first m.position one low ∙ a.has (kind-first m.position o).0;
        lower = subst (λ l. AreBelow m.position (positions_of l)) (sym same) a.lower;
        leads = subst (λ l. IsTail (positions_with (take n es) c (actives kind (take m.position (take n S)))) (m.position ∷ positions_of l)) (sym same)
            (subst (λ xs. IsTail xs (m.position ∷ positions_of (take m.beneath list))) (sym (with-first m.position low)) a.leads);
      }

  pub list-front : IsListOf kind (take n es) (take n S) c (kept_until n list)
  list-front = record {
    mentions = subst AreMentions (sym cut.1) (mentions-front list cut.0 is.mentions);
    sound = λ i m got low.
        let g = take-get cut.0 i list m (ap (λ l. slice_get l i) (sym cut.1) ∙ got) in
        sound-first i m g.1 g.0 (kept-below list n i m got);
    complete = λ p o has.
        let f = kind-first p o in
        let r = is.complete p f.0 (sym (code-first p o.one f.1) ∙ has) in
        let k = kept-has list n r.0 r.1 r.2 (let e = r.3 in let low = f.1 in omega (arith, e, low)) in
        (k.0, r.1, k.1, r.3);
  }

-- no statements
pub list-none : (kind : Stmt → Bool) (c : ℕ) → IsListOf kind [] [] c []
list-none kind c = record {
  mentions = record { linked = λ i m got. cc; ordered = λ i j d le lt. absurd (omega (arith, lt)) };
  sound = λ i m got low. cc;
  complete = λ p o has. let g = o.stands in cc;
}
