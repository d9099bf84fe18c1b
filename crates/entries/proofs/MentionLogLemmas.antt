-- The log of the mentions of all numbers: a mention is added, or the last one is removed.
use Rattle.entries.proofs.Words.{◌≡◌, ℕ, zero, suc, ◌+◌, ◌-◌, ◌<◌, ◌≤◌, Bool, true, false, nat_eq, nat_lt, nat_le, cond, List, [], ◌∷◌, ◌++◌, length, take, get_or, reverse, reverse-append, slice_get, slice_set, Some, refl, ◌∙◌, ap, sym, subst, arith, append-nil, le-leb, lt-leb, ltb-true, ltb-false, get_or_from_slice_get, slice_get_within, length-append, get_or_read, take_more, filter-append, take_all}
use Rattle.entries.specs.declared.mentions.Mention.{Mention}
use Rattle.entries.specs.Mentions.{AreSame, AreUntil, AreWith, IsUntil, kept_until, mentions_of}
use Rattle.entries.specs.Stored.MentionLog.{AreLogged, AreLoggedIn}
use Rattle.entries.proofs.MentionLemmas.{set-with}

-- ---- the mentions up to a position

pub until-kept : (last : ℕ) (vs : List Mention) → IsUntil last vs → kept_until last vs ≡ vs
until-kept last [] h = refl
until-kept last (v ∷ vs) h = ap (λ b. cond b (v ∷ kept_until last vs) (kept_until last vs)) (le-leb v.position last h.0) ∙ ap (λ r. v ∷ r) (until-kept last vs h.1)

pub kept-front : (last : ℕ) (front : List Mention) (v : Mention) → last < v.position → kept_until last (front ++ v ∷ []) ≡ kept_until last front
kept-front last front v late =
    filter-append (λ u. nat_le u.position last) front (v ∷ [])
    ∙ (ap (λ b. kept_until last front ++ cond b (v ∷ []) []) (lt-leb v.position last late) ∙ append-nil _)

pub until-later : (at later : ℕ) (vs : List Mention) → at ≤ later → IsUntil at vs → IsUntil later vs
until-later at later [] le h = tt
until-later at later (v ∷ vs) le h = (let a = h.0 in omega (arith, a, le), until-later at later vs le h.1)

pub until-more : (at : ℕ) (ms : List Mention) (m : Mention) → IsUntil at ms → m.position ≤ at → IsUntil at (ms ++ m ∷ [])
until-more at [] m until le = (le, tt)
until-more at (u ∷ ms) m until le = (until.0, until-more at ms m until.1 le)

-- ---- the log of other lists

pub logged-same : (log : List ℕ) (hs gs : List (List Mention)) → AreSame hs gs → AreLoggedIn log hs → AreLoggedIn log gs
logged-same [] hs gs same are = λ c. same c ∙ are c
logged-same (c ∷ log) hs gs same are = (are.0, are.1, are.2, are.3, λ d. same d ∙ are.4 d)

pub same-logged : (log : List ℕ) (hs gs : List (List Mention)) → AreSame hs gs → AreLogged log hs → AreLogged log gs
same-logged log hs gs same are = record { each = logged-same (reverse log) hs gs same are.each }

-- a mention of c that is appended is logged last
pub logged-change : (log log' : List ℕ) (hs gs : List (List Mention)) (c : ℕ) (m : Mention) (old new : List Mention) → AreLogged log hs → AreUntil m.position hs → AreSame hs gs → c < length gs
    → old ≡ get_or gs c old → new ≡ old ++ m ∷ [] → log' ≡ log ++ c ∷ [] → AreLogged log' (slice_set gs c new)
logged-change log log' hs gs c m old new are until same lt read is more =
    let last : reverse log' ≡ c ∷ reverse log = ap reverse more ∙ reverse-append log (c ∷ []) in
    let here : old ≡ mentions_of hs c = get_or_read gs c old lt read [] ∙ same c in
    record { each = subst (λ l. AreLoggedIn l (slice_set gs c new)) (sym last) (hs, m, are.each, until, λ d. set-with gs c new lt d ∙ by d (nat_eq d c) (is ∙ ap (λ r. r ++ m ∷ []) here)) }
  where
    by : (d : ℕ) (b : Bool) → new ≡ mentions_of hs c ++ m ∷ [] → cond b new (mentions_of gs d) ≡ cond b (mentions_of hs c ++ m ∷ []) (mentions_of hs d)
    by d true e = e
    by d false e = same d

-- the mentions of c are as they were
pub logged-kept : (log : List ℕ) (hs gs : List (List Mention)) (c : ℕ) (old new : List Mention) → AreLogged log hs → AreSame hs gs → c < length gs → old ≡ get_or gs c old → new ≡ old → AreLogged log (slice_set gs c new)
logged-kept log hs gs c old new are same lt read is = same-logged log hs (slice_set gs c new) (λ d. set-with gs c new lt d ∙ by d (nat_eq d c) refl) are
  where
    by : (d : ℕ) (b : Bool) → nat_eq d c ≡ b → cond b new (mentions_of gs d) ≡ mentions_of hs d
    by d true e = let here : c ≡ d = grind (arith, e) in is ∙ (get_or_read gs c old lt read [] ∙ (ap (mentions_of gs) here ∙ same d))
    by d false e = same d

-- ---- the last mention is removed

-- the last number of the log has the last mention of all
pub record IsLogEnd (log : List ℕ) (c : ℕ) (hs : List (List Mention)) : Type 0 where
  pub before : List (List Mention)
  pub mention : Mention
  pub front : AreLogged (take (length log - 1) log) before
  pub until : AreUntil mention.position before
  pub with : AreWith before c (mentions_of before c ++ mention ∷ []) hs
  pub own : mentions_of hs c ≡ mentions_of before c ++ mention ∷ []
  pub within : c < length hs

pub log-end : (log : List ℕ) (hs : List (List Mention)) (c : ℕ) → AreLogged log hs → Some c ≡ slice_get log (length log - 1) → IsLogEnd log c hs
log-end log hs c are top =
    let lt = slice_get_within log (length log - 1) c (sym top) in
    let n : length log ≡ (length log - 1) + 1 = omega (arith, lt) in
    let whole : log ≡ take (length log - 1) log ++ c ∷ [] =
    sym (take_all (length log - 1 + 1) log (omega (arith, n))) ∙ (take_more log (length log - 1) c lt ∙ ap (λ x. take (length log - 1) log ++ x ∷ []) (get_or_from_slice_get log (length log - 1) c c (sym top))) in
    let last : reverse log ≡ c ∷ reverse (take (length log - 1) log) = ap reverse whole ∙ reverse-append (take (length log - 1) log) (c ∷ []) in
    let r = subst (λ l. AreLoggedIn l hs) last are.each in
    let here : nat_eq c c ≡ true = grind arith in
    let own : mentions_of hs c ≡ mentions_of r.0 c ++ r.1 ∷ [] = r.4 c ∙ ap (λ b. cond b (mentions_of r.0 c ++ r.1 ∷ []) (mentions_of r.0 c)) here in
    record { before = r.0; mention = r.1; front = record { each = r.2 }; until = r.3; with = r.4; own = own; within = has hs c (mentions_of r.0 c) r.1 own }
  where
    has : (gs : List (List Mention)) (i : ℕ) (front : List Mention) (v : Mention) → mentions_of gs i ≡ front ++ v ∷ [] → i < length gs
    has [] i front v e = absurd (let n = ap length e in let m = length-append front (v ∷ []) in omega (arith, n, m))
    has (g ∷ gs) zero front v e = omega arith
    has (g ∷ gs) (suc i) front v e = omega (arith, has gs i front v e)

-- the last mention of c, the last number in the log, is removed if it is after `last`; else all
-- mentions stay
pub record IsPopStep (log : List ℕ) (hs : List (List Mention)) (c last : ℕ) (popped : Bool) (new : List Mention) : Type 0 where
  pub stays : popped ≡ false → AreLogged log (slice_set hs c new) × ((d : ℕ) → mentions_of (slice_set hs c new) d ≡ kept_until last (mentions_of hs d))
  pub goes : popped ≡ true → AreLogged (take (length log - 1) log) (slice_set hs c new) × ((d : ℕ) → kept_until last (mentions_of (slice_set hs c new) d) ≡ kept_until last (mentions_of hs d))

pub pop-step : (log : List ℕ) (hs : List (List Mention)) (c last : ℕ) (popped : Bool) (old new : List Mention) → AreLogged log hs → Some c ≡ slice_get log (length log - 1) → old ≡ get_or hs c old
    → ((front : List Mention) (v : Mention) → old ≡ front ++ v ∷ [] → (popped ≡ nat_lt last v.position) × (new ≡ cond (nat_lt last v.position) front old)) → IsPopStep log hs c last popped new
pop-step log hs c last popped old new are top read told = record { stays = stays; goes = goes }
  where
    e : IsLogEnd log c hs
    e = log-end log hs c are top

    here : old ≡ mentions_of hs c
    here = get_or_read hs c old e.within read []

    is : (popped ≡ nat_lt last e.mention.position) × (new ≡ cond (nat_lt last e.mention.position) (mentions_of e.before c) old)
    is = told (mentions_of e.before c) e.mention (here ∙ e.own)

    -- each number has the mentions that it had before the last one, which c has besides
    each : (d : ℕ) (P : List Mention → List Mention → Type 0) → ((d ≡ c) → P new (mentions_of e.before c ++ e.mention ∷ [])) → P (mentions_of e.before d) (mentions_of e.before d) → P (mentions_of (slice_set hs c new) d) (mentions_of hs d)
    each d P own other = subst (λ l. P l (mentions_of hs d)) (sym (set-with hs c new e.within d)) (subst (λ l. P (cond (nat_eq d c) new l) l) (sym (e.with d)) (by (nat_eq d c) refl))
      where
        by : (b : Bool) → nat_eq d c ≡ b → P (cond b new (cond b (mentions_of e.before c ++ e.mention ∷ []) (mentions_of e.before d))) (cond b (mentions_of e.before c ++ e.mention ∷ []) (mentions_of e.before d))
        by true h = own (grind (arith, h))
        by false h = other

    stays : popped ≡ false → AreLogged log (slice_set hs c new) × ((d : ℕ) → mentions_of (slice_set hs c new) d ≡ kept_until last (mentions_of hs d))
    stays not_gone =
        let early : nat_lt last e.mention.position ≡ false = sym is.0 ∙ not_gone in
        let low = ltb-false last e.mention.position early in
        let same : new ≡ mentions_of e.before c ++ e.mention ∷ [] = is.1 ∙ (ap (λ b. cond b (mentions_of e.before c) old) early ∙ (here ∙ e.own)) in
        let old_low : (d : ℕ) → IsUntil last (mentions_of e.before d) = λ d. until-later e.mention.position last (mentions_of e.before d) low (e.until d) in
        (same-logged log hs (slice_set hs c new) (λ d. each d (λ x y. x ≡ y) (λ h. same) refl) are, λ d. each d (λ x y. x ≡ kept_until last y) (λ h. same ∙ sym (until-kept last _ (until-more last (mentions_of e.before c) e.mention (old_low c) low))) (sym (until-kept last _ (old_low d))))

    goes : popped ≡ true → AreLogged (take (length log - 1) log) (slice_set hs c new) × ((d : ℕ) → kept_until last (mentions_of (slice_set hs c new) d) ≡ kept_until last (mentions_of hs d))
    goes gone =
        let late : nat_lt last e.mention.position ≡ true = sym is.0 ∙ gone in
        let front : new ≡ mentions_of e.before c = is.1 ∙ ap (λ b. cond b (mentions_of e.before c) old) late in (
          same-logged (take (length log - 1) log) e.before (slice_set hs c new) (λ d. each d (λ x y. x ≡ mentions_of e.before d) (λ h. front ∙ ap (mentions_of e.before) (sym h)) refl) e.front,
          λ d. each d (λ x y. kept_until last x ≡ kept_until last y) (λ h. ap (kept_until last) front ∙ sym (kept-front last (mentions_of e.before c) e.mention (ltb-true last e.mention.position late))) refl,
        )
