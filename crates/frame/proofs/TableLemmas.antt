-- The tables of the `$d` and of the `$v`: while the next statement extends them, after it, and after
-- they are cut.
use Rattle.frame.proofs.Words.{◌≡◌, ◌∙◌, ap, sym, subst, arith, refl, inl, inr, ℕ, zero, suc, ◌+◌, ◌-◌, ◌<◌, ◌≤◌, ◌⊎◌, Bool, true, false, cond, nat_eq, nat_le, List, [], ◌∷◌, ◌++◌, length, map_push, take, take_all, take-append-le, take-map, length-append, length-map, length-take-le, slice_get, Some, get-last, get-more, get-push, list_any, true≢false, Result, Ok, Err, OnOk, OnErr, leb-true, Stmt, Database, Entry, Kind, Disj, LastActive, is_close, actives, stmt_by, shapes_of, option_symbols, has_code, positions_with, kind_test, last_by_kind, opening, KeepsUntil, Mention, AreKeptUntil, AreSame, AreUntil, AreWith, IsUntil, kept_until, mentions_of, positions_of, mentions-kept, until-kept, until-later, until-more, AreGrown, IsGrown, IsLastActive, IsListOf, IsMentionedAt, IsTableOf, IsUpTo, active_with, is_entry_of}
use Rattle.entries.specs.declared.kind.Kind.TheVariants as kind
use Rattle.frame.proofs.LastActiveLemmas.{actives-close}
use Rattle.frame.proofs.MentionListLemmas.{list-front, list-next, list-none, list-over, sound-mark, sound-own}
use Rattle.frame.proofs.MentionWalkLemmas.{no-closing}
use Rattle.frame.proofs.PositionsWith.{opening-back}
use Rattle.frame.proofs.ShapeLemmas.{shape-test}

pub up-to-kind : (table : Kind) (i : ℕ) (l : LastActive) → IsUpTo i l → last_by_kind table l ≤ i
up-to-kind Disj i l up = up.disjoint
up-to-kind table i l up = up.variable

until-get : (at : ℕ) (ms : List Mention) (i : ℕ) (m : Mention) → IsUntil at ms → slice_get ms i ≡ Some m → m.position ≤ at
until-get at [] i m until got = cc
until-get at (u ∷ ms) zero m until got = let same : u ≡ m = cc in subst (λ (v : Mention). v.position ≤ at) same until.0
until-get at (u ∷ ms) (suc i) m until got = until-get at ms i m until.1 got

kept-low : (n : ℕ) (ms : List Mention) → IsUntil n (kept_until n ms)
kept-low n [] = tt
kept-low n (m ∷ ms) = by (nat_le m.position n) refl (kept-low n ms)
  where
    by : (b : Bool) → nat_le m.position n ≡ b → IsUntil n (kept_until n ms) → IsUntil n (cond b (m ∷ kept_until n ms) (kept_until n ms))
    by true e r = (leb-true m.position n e, r)
    by false e r = r

pub take-again : (n : ℕ) (ms : List Mention) → take (length (take n ms)) ms ≡ take n ms
take-again zero ms = refl
take-again (suc n) [] = refl
take-again (suc n) (m ∷ ms) = ap (λ r. m ∷ r) (take-again n ms)

many : (es : List Entry) → length (shapes_of es) ≡ length es
many es = length-map es (λ e. stmt_by e.kind [] [])

-- ---- one mention by the next statement

-- the mentions of a symbol before and after a call that may mention the symbol `code`
abbrev pub IsLonger : List (List Mention) → ℕ → Mention → List (List Mention) → Type 0
IsLonger old code m new = (c : ℕ) → (mentions_of new c ≡ mentions_of old c) ⊎ ((nat_eq c code ≡ true) × (mentions_of new c ≡ mentions_of old c ++ m ∷ []))

pub longer-by : {E : Type 0} (r : Result Unit E) (old new : List (List Mention)) (code : ℕ) (m : Mention) → OnOk r (AreWith old code (mentions_of old code ++ m ∷ []) new) → OnErr r (AreSame old new) → IsLonger old code m new
longer-by (Err e) old new code m with same c = inl (same c)
longer-by (Ok x) old new code m with same c = by (nat_eq c code) refl (with c)
  where
    by : (b : Bool) → nat_eq c code ≡ b → mentions_of new c ≡ cond b (mentions_of old code ++ m ∷ []) (mentions_of old c) → (mentions_of new c ≡ mentions_of old c) ⊎ ((nat_eq c code ≡ true) × (mentions_of new c ≡ mentions_of old c ++ m ∷ []))
    by true e h = let is : code ≡ c = grind (arith, e) in inr (e, h ∙ ap (λ n. mentions_of old n ++ m ∷ []) is)
    by false e h = inl h

module _ (table : Kind) (es : List Entry) (from code : ℕ) (m : Mention) (old new : List (List Mention)) (longer : IsLonger old code m new) (place : m.position ≡ length es + 1) where
  pub longer-grown : AreGrown table es from old → m.beneath ≤ length (mentions_of old code) → positions_of (take m.beneath (mentions_of old code)) ≡ active_with table es code from → AreGrown table es from new
  longer-grown grown low above c = by (longer c)
    where
      by : (mentions_of new c ≡ mentions_of old c) ⊎ ((nat_eq c code ≡ true) × (mentions_of new c ≡ mentions_of old c ++ m ∷ [])) → IsGrown table es from c (mentions_of new c)
      by (inl same) = subst (IsGrown table es from c) (sym same) (grown c)
      by (inr more) = subst (IsGrown table es from c) (sym more.1) (record {
        mentions = list-over (kind_test table) es (shapes_of es) c list m g.mentions (omega (arith, place, many es)) (subst (λ n. m.beneath ≤ length (mentions_of old n)) is low) (subst (λ n. IsUntil n list) (sym place) g.until);
        until = until-more (length es + 1) list m g.until (omega (arith, place));
        above = λ i u got at. one i u at (get-push list m u i got);
      })
        where
          list : List Mention
          list = mentions_of old c

          g : IsGrown table es from c list
          g = grown c

          is : code ≡ c
          is = let e = more.0 in grind (arith, e)

          front : (k : ℕ) → k ≤ length list → take k (list ++ m ∷ []) ≡ take k list
          front k le = take-append-le k list (m ∷ []) le

          one : (i : ℕ) (u : Mention) → u.position ≡ length es + 1 → ((i < length list) × (slice_get list i ≡ Some u)) ⊎ ((i ≡ length list) × (m ≡ u)) → positions_of (take u.beneath (list ++ m ∷ [])) ≡ active_with table es c from
          one i u at (inl q) = let linked = g.mentions.mentions.linked i u q.1 in ap positions_of (front u.beneath (omega (arith, linked, q.0))) ∙ g.above i u q.1 at
          one i u at (inr q) =
              subst (λ (v : Mention). positions_of (take v.beneath (list ++ m ∷ [])) ≡ active_with table es c from) q.1
              (ap positions_of (front m.beneath (subst (λ n. m.beneath ≤ length (mentions_of old n)) is low)) ∙ subst (λ n. positions_of (take m.beneath (mentions_of old n)) ≡ active_with table es n from) is above)

  pub longer-kept : KeepsUntil (length es) old new
  longer-kept c = by (longer c)
    where
      by : (mentions_of new c ≡ mentions_of old c) ⊎ ((nat_eq c code ≡ true) × (mentions_of new c ≡ mentions_of old c ++ m ∷ [])) → kept_until (length es) (mentions_of new c) ≡ kept_until (length es) (mentions_of old c)
      by (inl same) = ap (kept_until (length es)) same
      by (inr more) = ap (kept_until (length es)) more.1 ∙ mentions-kept (length es) (mentions_of old c) m (omega (arith, place))

  pub longer-others : (c : ℕ) → nat_eq c code ≡ false → mentions_of new c ≡ mentions_of old c
  longer-others c other = by (longer c)
    where
      by : (mentions_of new c ≡ mentions_of old c) ⊎ ((nat_eq c code ≡ true) × (mentions_of new c ≡ mentions_of old c ++ m ∷ [])) → mentions_of new c ≡ mentions_of old c
      by (inl same) = same
      by (inr more) = absurd (true≢false (sym more.0 ∙ other))

  pub longer-still : (at c : ℕ) → IsMentionedAt at (mentions_of old c) → IsMentionedAt at (mentions_of new c)
  longer-still at c h = by (longer c)
    where
      by : (mentions_of new c ≡ mentions_of old c) ⊎ ((nat_eq c code ≡ true) × (mentions_of new c ≡ mentions_of old c ++ m ∷ [])) → IsMentionedAt at (mentions_of new c)
      by (inl same) = subst (IsMentionedAt at) (sym same) h
      by (inr more) = subst (IsMentionedAt at) (sym more.1) (h.0, h.1, get-more (mentions_of old c) (m ∷ []) h.0 h.1 h.2, h.3)

-- the symbol has the mention
pub mentioned-by : (old new : List (List Mention)) (code at : ℕ) (m : Mention) → AreWith old code (mentions_of old code ++ m ∷ []) new → m.position ≡ at → IsMentionedAt at (mentions_of new code)
mentioned-by old new code at m with place =
    let here : nat_eq code code ≡ true = grind arith in
    subst (IsMentionedAt at) (sym (with code ∙ ap (λ b. cond b (mentions_of old code ++ m ∷ []) (mentions_of old code)) here)) (length (mentions_of old code), m, get-last (mentions_of old code) m, place)

-- ---- a table before and after the next statement

pub grown-start : (table : Kind) (es : List Entry) (from : ℕ) (lists : List (List Mention)) → IsTableOf table es lists → AreGrown table es from lists
grown-start table es from lists are c = record {
  mentions = are.each c;
  until = until-later (length es) (length es + 1) (mentions_of lists c) (omega arith) (are.until c);
  above = λ i m got place. absurd (let low = until-get (length es) (mentions_of lists c) i m (are.until c) got in omega (arith, low, place));
}

module _ (table : Kind) (es : List Entry) (e : Entry) (old : List (List Mention)) (are : IsTableOf table es old) where
  abbrev S : Database
  S = shapes_of es

  abbrev s : Stmt
  s = stmt_by e.kind [] []

  size : length es ≡ length S
  size = sym (many es)

  -- the table of all statements, by the lists of each symbol
  pub table-by : (new : List (List Mention)) → AreUntil (length es + 1) new → ((c : ℕ) → IsListOf (kind_test table) (es ++ e ∷ []) (S ++ s ∷ []) c (mentions_of new c)) → IsTableOf table (es ++ e ∷ []) new
  table-by new until each = record {
    until = λ c. subst (λ n. IsUntil n (mentions_of new c)) (omega (arith, length-append es (e ∷ []))) (until c);
    each = λ c. subst (λ T. IsListOf (kind_test table) (es ++ e ∷ []) T c (mentions_of new c)) (sym (map_push (λ x. stmt_by x.kind [] []) es e)) (each c);
  }

  none-yet : (c i : ℕ) (m : Mention) → slice_get (mentions_of old c) i ≡ Some m → m.position ≡ length S + 1 → ⊥
  none-yet c i m got place = let low = until-get (length es) (mentions_of old c) i m (are.until c) got in absurd (omega (arith, low, place, size))

  code-last : (c : ℕ) → has_code (es ++ e ∷ []) c (length S + 1) ≡ list_any (λ x. nat_eq c x) e.symbols
  code-last c = ap (λ o. list_any (λ x. nat_eq c x) (option_symbols o)) (ap (slice_get (es ++ e ∷ [])) (omega (arith, size)) ∙ get-last es e)

  -- a statement of another kind that is no `$}` changes nothing
  pub table-other : is_entry_of table e.kind ≡ false → IsTableOf table (es ++ e ∷ []) old
  table-other other = table-by old (λ c. until-later (length es) (length es + 1) (mentions_of old c) (omega arith) (are.until c)) (λ c.
      list-next (kind_test table) es S e s c (mentions_of old c) (are.each c) size (λ i m got place. absurd (none-yet c i m got place))
      (λ of has. absurd (true≢false (sym of ∙ (shape-test table e.kind ∙ other)))))

  module _ (new : List (List Mention)) where
    -- a statement of the kind has a mention of each of its symbols
    pub table-own : is_entry_of table e.kind ≡ true → AreGrown table es (length es + 1) new → ((c : ℕ) → list_any (λ x. nat_eq c x) e.symbols ≡ false → mentions_of new c ≡ mentions_of old c)
        → ((c : ℕ) → list_any (λ x. nat_eq c x) e.symbols ≡ true → IsMentionedAt (length es + 1) (mentions_of new c)) → IsTableOf table (es ++ e ∷ []) new
    table-own own grown others mentioned = table-by new (λ c. (grown c).until) (λ c.
        list-next (kind_test table) es S e s c (mentions_of new c) (grown c).mentions size
        (λ i m got place. sound-own (kind_test table) es S e s c (mentions_of new c) (grown c).mentions size m place ((grown c).above i m got (omega (arith, place, size)) ∙ now c) test (stays table e.kind own) (code-last c ∙ has c i m got place (list_any (λ x. nat_eq c x) e.symbols) refl))
        (λ of h. subst (λ n. IsMentionedAt n (mentions_of new c)) (omega (arith, size)) (mentioned c (sym (code-last c) ∙ h))))
      where
        test : kind_test table s ≡ true
        test = shape-test table e.kind ∙ own

        now : (c : ℕ) → active_with table es c (length es + 1) ≡ positions_with es c (actives (kind_test table) S)
        now c = ap (λ T. positions_with es c (actives (kind_test table) T)) (take_all (length es + 1 - 1) S (omega (arith, size)))

        stays : (of q : Kind) → is_entry_of of q ≡ true → is_close (stmt_by q [] []) ≡ false
        stays Disj kind.Close h = cc
        stays of kind.Close h = cc
        stays of q h = refl

        has : (c i : ℕ) (m : Mention) → slice_get (mentions_of new c) i ≡ Some m → m.position ≡ length S + 1 → (b : Bool) → list_any (λ x. nat_eq c x) e.symbols ≡ b → list_any (λ x. nat_eq c x) e.symbols ≡ true
        has c i m got place true h = h
        has c i m got place false h = absurd (none-yet c i m (ap (λ l. slice_get l i) (sym (others c h)) ∙ got) place)

    -- a `$}` mentions symbols above what is active after it
    pub table-closed : (l : LastActive) → IsLastActive es l → e.kind ≡ kind.Close → is_entry_of table e.kind ≡ false → AreGrown table es (opening l.block) new → IsTableOf table (es ++ e ∷ []) new
    table-closed l last closes other grown = table-by new (λ c. (grown c).until) (λ c.
        list-next (kind_test table) es S e s c (mentions_of new c) (grown c).mentions size
        (λ i m got place. sound-mark (kind_test table) es S e s c (mentions_of new c) (grown c).mentions size m place test (opening l.block - 1) low ((grown c).above i m got (omega (arith, place, size))) after)
        (λ of has. absurd (true≢false (sym of ∙ test))))
      where
        test : kind_test table s ≡ false
        test = shape-test table e.kind ∙ other

        low : opening l.block - 1 ≤ length S
        low = let up = last.earlier.block in let back = opening-back l.block in omega (arith, up, back, size)

        after : actives (kind_test table) (S ++ s ∷ []) ≡ actives (kind_test table) (take (opening l.block - 1) S)
        after =
            ap (λ q. actives (kind_test table) (S ++ stmt_by q [] [] ∷ [])) closes
            ∙ (actives-close (kind_test table) S (no-closing table) ∙ ap (λ n. actives (kind_test table) (take n S)) (ap (λ n. n - 1) (sym last.opened) ∙ sym (opening-back l.block)))

-- ---- the same lists, the first statements alone, and no statements

pub table-same : (table : Kind) (es : List Entry) (old new : List (List Mention)) → IsTableOf table es old → AreSame old new → IsTableOf table es new
table-same table es old new are same = record {
  until = λ c. subst (IsUntil (length es)) (sym (same c)) (are.until c);
  each = λ c. subst (IsListOf (kind_test table) es (shapes_of es) c) (sym (same c)) (are.each c);
}

pub table-front : (table : Kind) (es : List Entry) (old new : List (List Mention)) (n : ℕ) → IsTableOf table es old → n ≤ length es → AreKeptUntil n old new → IsTableOf table (take n es) new
table-front table es old new n are le kept = record {
  until = λ c. subst (λ vs. IsUntil (length (take n es)) vs) (sym (kept c)) (subst (λ m. IsUntil m (kept_until n (mentions_of old c))) (sym (length-take-le n es le)) (kept-low n (mentions_of old c)));
  each = λ c. subst (λ T. IsListOf (kind_test table) (take n es) T c (mentions_of new c)) (take-map (λ e. stmt_by e.kind [] []) n es)
      (subst (IsListOf (kind_test table) (take n es) (take n (shapes_of es)) c) (sym (kept c)) (list-front (kind_test table) es (shapes_of es) c (mentions_of old c) (are.each c) n (omega (arith, le, many es))));
}

-- if mentions are appended and removed again, the table is as before
pub table-back : (table : Kind) (es : List Entry) (old mid new : List (List Mention)) → IsTableOf table es old → KeepsUntil (length es) old mid → AreKeptUntil (length es) mid new → IsTableOf table es new
table-back table es old mid new are keeps kept = table-same table es old new are (λ c. kept c ∙ (keeps c ∙ until-kept (length es) (mentions_of old c) (are.until c)))

pub table-none : (table : Kind) → IsTableOf table [] []
table-none table = record { until = λ c. tt; each = list-none (kind_test table) }
