-- A script, read line by line.
use Rattle.commands.proofs.Words.{◌≡◌, ℕ, zero, suc, ◌+◌, ◌<◌, Bool, false, List, [], ◌∷◌, ◌++◌, drop, Option, Some, None, Result, Ok, Err, IsTrue, ◌||◌, not, true, refl, sym, ◌∙◌, ap, subst, arith, length, append_assoc, append-nil, length-drop, ◌-◌, LineFault, LINE_FEED, split_at, RemainingLines, IsAdvanced, ParsesLine, script_of, script_from, with_line, prepended}
use Rattle.commands.specs.declared.script.LineFault.TheVariants.{Memory as NoMemory}

-- the result of parsing lines, with these lines in front
abbrev pub preceded_by : {L : Type 0} → List L → Result (List L) ℕ → Result (List L) ℕ
preceded_by front (Ok lines) = Ok (front ++ lines)
preceded_by front (Err bad) = Err bad

-- with no lines in front the result is the same
preceded_by-none : {L : Type 0} (r : Result (List L) ℕ) → r ≡ preceded_by [] r
preceded_by-none (Ok lines) = refl
preceded_by-none (Err bad) = refl

-- no allocation fails now, and none failed before
pushed_each_time : (no_memory added : Bool) (P : Type 0) → (IsTrue added → P) → (no_memory || not added) ≡ false → (no_memory ≡ false) × P
pushed_each_time true added P h none = absurd (cc)
pushed_each_time false true P h none = (refl, h refl)
pushed_each_time false false P h none = absurd (cc)

-- lines that belong to a text are passed over
pub text_passed : {L : Type 0} (expected : List ℕ → List (List ℕ) → Option (L × ℕ)) (number count : ℕ) (lines : List (List ℕ))
    → script_from expected number count lines ≡ script_from expected (number + count) 0 (drop count lines)
text_passed expected number zero lines = ap (λ n. script_from expected n 0 lines) (let e : number ≡ number + 0 = omega arith in e)
text_passed expected number (suc count) [] = refl
text_passed expected number (suc count) (line ∷ lines) =
    text_passed expected (number + 1) count lines
    ∙ ap (λ n. script_from expected n 0 (drop count lines)) (let e : number + 1 + count ≡ number + suc count = omega arith in e)

-- the lines read so far, and those that are left; all are kept, unless an allocation failed
pub record IsRead {L : Type 0} (expected : List ℕ → List (List ℕ) → Option (L × ℕ)) (script : List ℕ) (kept : List L) (no_memory : Bool)
    (rest : RemainingLines) : Type 0 where
  pub front : List L
  pub says : script_of expected script ≡ preceded_by front (script_from expected (rest.number + 1) 0 rest.lines)
  pub whole : no_memory ≡ false → kept ≡ front

-- no line is read yet
pub is_read_none : {L : Type 0} (expected : List ℕ → List (List ℕ) → Option (L × ℕ)) (script : List ℕ) (kept : List L) (rest : RemainingLines)
    → kept ≡ [] → rest ≡ record { number = 0; lines = split_at LINE_FEED script } → IsRead expected script kept false rest
is_read_none expected script kept rest none all = record {
  front = [];
  says = preceded_by-none (script_of expected script) ∙ ap (λ r. preceded_by [] (script_from expected (r.number + 1) 0 r.lines)) (sym all);
  whole = λ _. none;
}

-- a line in front of the rest is the last of those in front
preceded_by-line : {L : Type 0} (front : List L) (x : L) (r : Result (List L) ℕ)
    → preceded_by front (prepended x r) ≡ preceded_by (front ++ x ∷ []) r
preceded_by-line front x (Ok lines) = ap Ok (sym (append_assoc front (x ∷ []) lines))
preceded_by-line front x (Err bad) = refl

module _ {L : Type 0} {expected : List ℕ → List (List ℕ) → Option (L × ℕ)} {script : List ℕ} {kept : List L} {no_memory : Bool} {rest : RemainingLines}
    (so : IsRead expected script kept no_memory rest) (line : List ℕ) (next : RemainingLines)
    (is : rest.lines ≡ line ∷ next.lines) (counted : next.number ≡ rest.number + 1) where
  -- the result for the script, by the next line and those after it
  says_so : script_of expected script ≡ preceded_by so.front (script_from expected next.number 0 (line ∷ next.lines))
  says_so = so.says ∙ (ap (λ r. preceded_by so.front (script_from expected (rest.number + 1) 0 r)) is
      ∙ ap (λ n. preceded_by so.front (script_from expected n 0 (line ∷ next.lines))) (sym counted))

  script-empty : length line ≡ 0 → script_from expected next.number 0 (line ∷ next.lines) ≡ script_from expected (next.number + 1) 0 next.lines
  script-empty none = by line none
    where
      by : (l : List ℕ) → length l ≡ 0 → script_from expected next.number 0 (l ∷ next.lines) ≡ script_from expected (next.number + 1) 0 next.lines
      by [] e = refl
      by (c ∷ cs) e = absurd (omega arith)

  script-line : 0 < length line → script_from expected next.number 0 (line ∷ next.lines)
      ≡ with_line next.number (expected line next.lines) (λ count. script_from expected (next.number + 1) count next.lines)
  script-line some = by line some
    where
      by : (l : List ℕ) → 0 < length l → script_from expected next.number 0 (l ∷ next.lines)
          ≡ with_line next.number (expected l next.lines) (λ count. script_from expected (next.number + 1) count next.lines)
      by [] e = absurd (omega arith)
      by (c ∷ cs) e = refl

  -- the result for the script, if the next line is parsed as this
  says_line : (found : Option (L × ℕ)) → 0 < length line → expected line next.lines ≡ found
      → script_of expected script ≡ preceded_by so.front (with_line next.number found (λ count. script_from expected (next.number + 1) count next.lines))
  says_line found some says = says_so ∙ ap (preceded_by so.front)
      (script-line some ∙ ap (λ o. with_line next.number o (λ count. script_from expected (next.number + 1) count next.lines)) says)

  -- an empty line
  pub is_read_empty : length line ≡ 0 → IsRead expected script kept no_memory next
  is_read_empty none = record {
    front = so.front;
    says = says_so ∙ ap (preceded_by so.front) (script-empty none);
    whole = so.whole;
  }

  -- a bad line
  pub is_bad : 0 < length line → expected line next.lines ≡ None → script_of expected script ≡ Err next.number
  is_bad some says = says_line None some says

  module _ (found : L × ℕ) (after : RemainingLines) (some : 0 < length line) (says : expected line next.lines ≡ Some found) (past : IsAdvanced found.1 next after) where
    -- the lines of the text are left out of the rest
    rest_says : script_from expected (next.number + 1) found.1 next.lines ≡ script_from expected (after.number + 1) 0 after.lines
    rest_says =
        let number : next.number + 1 + found.1 ≡ after.number + 1 = let p = past.number in omega arith in
        text_passed expected (next.number + 1) found.1 next.lines
        ∙ (ap (λ n. script_from expected n 0 (drop found.1 next.lines)) number
        ∙ ap (script_from expected (after.number + 1) 0) (sym past.lines))

    -- a line that is parsed
    pub is_read_more : (now : List L) (no_memory_now : Bool) → (no_memory_now ≡ false → (no_memory ≡ false) × (now ≡ kept ++ found.0 ∷ []))
        → IsRead expected script now no_memory_now after
    is_read_more now no_memory_now keeps = record {
      front = so.front ++ found.0 ∷ [];
      says = says_line (Some found) some says
          ∙ (preceded_by-line so.front found.0 (script_from expected (next.number + 1) found.1 next.lines)
          ∙ ap (preceded_by (so.front ++ found.0 ∷ [])) rest_says);
      whole = λ e. let k = keeps e in k.1 ∙ ap (λ f. f ++ found.0 ∷ []) (so.whole k.0);
    }

    -- a line that is parsed, and kept if its allocation succeeds
    pub is_read_added : (now : List L) (added : Bool) → (IsTrue added → now ≡ kept ++ found.0 ∷ [])
        → IsRead expected script now (no_memory || not added) after
    is_read_added now added h = is_read_more now (no_memory || not added) (pushed_each_time no_memory added (now ≡ kept ++ found.0 ∷ []) h)

    -- a line that is parsed, for which an allocation failed
    pub is_read_without_memory : IsRead expected script kept true after
    is_read_without_memory = is_read_more kept true (λ never. absurd (cc))

    -- fewer lines are left
    pub fewer_left : length after.lines < length rest.lines
    fewer_left =
        let taken : length after.lines ≡ length next.lines - found.1 = ap length past.lines ∙ length-drop found.1 next.lines in
        let one : length rest.lines ≡ suc (length next.lines) = ap length is in
        omega arith

  -- a line that is parsed, and one for which an allocation failed
  module _ (after : RemainingLines) (some : 0 < length line) where
    pub is_read_parsed : (x : L) (now : List L) (added : Bool) → ParsesLine (expected line next.lines) next after (Ok x)
        → (IsTrue added → now ≡ kept ++ x ∷ []) → IsRead expected script now (no_memory || not added) after
    is_read_parsed x now added parses h = is_read_added (x, parses.0) after some parses.1 parses.2 now added h

    pub fewer_parsed : (x : L) → ParsesLine (expected line next.lines) next after (Ok x) → length after.lines < length rest.lines
    fewer_parsed x parses = fewer_left (x, parses.0) after some parses.1 parses.2

    pub is_read_unparsed : (fault : LineFault) → ParsesLine (expected line next.lines) next after (Err fault) → fault ≡ NoMemory
        → IsRead expected script kept true after
    is_read_unparsed fault parses is_memory =
        let P : LineFault → Type 0 = λ f. ParsesLine (expected line next.lines) next after (Err f) in
        let found : P NoMemory = subst P is_memory parses in
        is_read_without_memory found.0 after some found.1 found.2

    pub fewer_unparsed : (fault : LineFault) → ParsesLine (expected line next.lines) next after (Err fault) → fault ≡ NoMemory
        → length after.lines < length rest.lines
    fewer_unparsed fault parses is_memory =
        let P : LineFault → Type 0 = λ f. ParsesLine (expected line next.lines) next after (Err f) in
        let found : P NoMemory = subst P is_memory parses in
        fewer_left found.0 after some found.1 found.2

-- a script whose lines are all read
pub all_read : {L : Type 0} {expected : List ℕ → List (List ℕ) → Option (L × ℕ)} {script : List ℕ} {kept : List L} {no_memory : Bool} {rest : RemainingLines}
    → IsRead expected script kept no_memory rest → rest.lines ≡ [] → (front : List L) × (script_of expected script ≡ Ok front) × (no_memory ≡ false → kept ≡ front)
all_read {expected = expected} {rest = rest} so none =
    (so.front, so.says ∙ (ap (λ r. preceded_by so.front (script_from expected (rest.number + 1) 0 r)) none ∙ ap Ok (append-nil so.front)), so.whole)
