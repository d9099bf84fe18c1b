-- The rule of proof code that tokens break, if they write no items, and the first place at which
-- they break it.
-- Source: Metamath, 4.3 (normal proofs) and appendix B (compressed proofs).
-- The code reads tokens and letters from left to right.
use Rattle.std.specs.Prelude.{◌≡◌, ◌≢◌, ℕ, suc, ◌+◌, ◌<◌, ◌≤◌, ◌⊎◌, Bool, not, ◌||◌, IsTrue, IsFalse, List, [], ◌∷◌, ◌++◌, length, flat_map}
use Rattle.explain.specs.Words.{list_all, list_any, Name, has_byte, has_name, is_label, Item, Cite, Recall, Mark, IsNumber, is_leading, is_last, question_mark, is_unfinished, is_compressed, left_parenthesis, right_parenthesis, WritesRow}
use Rattle.explain.specs.declared.broken_code.TokenFault.{TokenFault}
use Rattle.explain.specs.declared.broken_code.TokenFault.TheVariants as token_fault
use Rattle.explain.specs.declared.why.CodeBreak.{CodeBreak}
use Rattle.explain.specs.declared.why.CodeBreak.TheVariants.{Unfinished, NotLabel, Mandatory, Unclosed, Letters}
use Rattle.explain.specs.declared.why.LetterBreak.{LetterBreak}
use Rattle.explain.specs.declared.why.LetterFault.{LetterFault}
use Rattle.explain.specs.declared.why.LetterFault.TheVariants.{NotLetter, NotEnded, EarlyMark, TooGreat}

-- the token has this fault
abbrev pub has_fault : List Name → TokenFault → Name → Bool
has_fault mandatory token_fault.Unfinished token = has_byte question_mark token
has_fault mandatory token_fault.NotLabel token = not (is_label token)
has_fault mandatory token_fault.NotListable token = not (is_label token) || has_name token mandatory

-- the first of the words that passes the test, its index, and the words after it
pub record IsFirst (test : Name → Bool) (words : List Name) (index : ℕ) (word : Name) (rest : List Name) : Type 0 where
  pub front : List Name
  pub whole : words ≡ front ++ word ∷ rest
  pub index_is : length front ≡ index
  pub before : IsFalse (list_any test front)
  pub here : IsTrue (test word)

-- ---- letters

-- the letters of the words, joined
abbrev pub joined : List Name → List ℕ
joined words = flat_map (λ word. word) words

-- the number of marks
abbrev pub marks_in : List Item → ℕ
marks_in [] = 0
marks_in (Mark ∷ items) = suc (marks_in items)
marks_in (Cite label ∷ items) = marks_in items
marks_in (Recall k ∷ items) = marks_in items

-- the letters end here, or the next one is a mark
abbrev pub IsEndOrMark : List ℕ → Type 0
IsEndOrMark [] = Unit {0}
IsEndOrMark (letter ∷ letters) = letter ≡ 90

-- the letters begin with one for which P holds
abbrev pub BeginsWith : (ℕ → Type 0) → List ℕ → Type 0
BeginsWith P [] = ⊥
BeginsWith P (letter ∷ letters) = P letter

-- the byte is not one of A to Z
abbrev pub IsNotLetter : ℕ → Type 0
IsNotLetter letter = IsFalse (is_leading letter) × IsFalse (is_last letter) × (letter ≢ 90)

-- the letter group has no letter yet, or some group with this beginning has a number up to the
-- limit
abbrev pub IsAllowedBeginning : ℕ → List ℕ → Type 0
IsAllowedBeginning limit begun = (begun ≡ []) ⊎ ((word : Name) × (n : ℕ) × IsNumber (begun ++ word) n × (n ≤ limit))

-- a letter A to Y such that every letter group beginning with `begun` and this letter has a number
-- greater than the limit
abbrev pub IsTooGreat : ℕ → List ℕ → ℕ → Type 0
IsTooGreat limit begun letter = IsTrue (is_leading letter || is_last letter) × ((word : Name) (n : ℕ) → IsNumber (begun ++ letter ∷ word) n → limit < n)

-- after the items and the letters U to Y that begin a letter group, the rest breaks the rule
abbrev pub Breaks : LetterFault → ℕ → List Item → List ℕ → List ℕ → Type 0
Breaks NotLetter limit items begun rest = BeginsWith IsNotLetter rest
Breaks NotEnded limit items begun rest = (begun ≢ []) × IsEndOrMark rest
Breaks EarlyMark limit items begun rest = (items ≡ []) × (begun ≡ []) × BeginsWith (λ letter. letter ≡ 90) rest
Breaks TooGreat limit items begun rest = BeginsWith (IsTooGreat limit begun) rest

-- the index of the fault: that of the letter itself, or of the beginning of the letter group
abbrev pub fault_index : LetterFault → ℕ → ℕ → ℕ
fault_index NotLetter front begun = front + begun
fault_index NotEnded front begun = front
fault_index EarlyMark front begun = front
fault_index TooGreat front begun = front

-- the letters before a letter group write items, letters U to Y may begin the group, and the rest
-- breaks a rule
pub record IsLetterBreak (labels : List Name) (letters : List ℕ) (broken : LetterBreak) : Type 0 where
  pub front : List ℕ
  pub items : List Item
  pub begun : List ℕ
  pub rest : List ℕ
  pub whole : letters ≡ front ++ (begun ++ rest)
  pub reads : WritesRow labels front items
  pub firsts : IsTrue (list_all is_leading begun)
  pub allowed : IsAllowedBeginning (length labels + marks_in items) begun
  pub breaks : Breaks broken.fault (length labels + marks_in items) items begun rest
  pub letter_is : broken.letter ≡ fault_index broken.fault (length front) (length begun)

-- ---- tokens

-- this token, at this index after `(`, ends the listed labels: the first that is not a label or is
-- a mandatory one
pub record EndsListedLabels (tokens mandatory : List Name) (index : ℕ) (word : Name) (rest : List Name) : Type 0 where
  pub words : List Name
  pub whole : tokens ≡ left_parenthesis ∷ words
  pub first : IsFirst (has_fault mandatory token_fault.NotListable) words index word rest

-- this token is the first that is not a label where a label is required
pub record IsNotLabel (tokens mandatory : List Name) (token : ℕ) : Type 0 where
  pub word : Name
  pub rest : List Name
  pub here : (IsFalse (is_compressed tokens) × IsFirst (has_fault mandatory token_fault.NotLabel) tokens token word rest)
      ⊎ ((index : ℕ) × (token ≡ index + 1) × EndsListedLabels tokens mandatory index word rest × (word ≢ right_parenthesis))
  pub other : IsFalse (is_label word)

-- this token is the first listed label of a mandatory hypothesis
pub record IsMandatory (tokens mandatory : List Name) (token : ℕ) : Type 0 where
  pub index : ℕ
  pub word : Name
  pub rest : List Name
  pub token_is : token ≡ index + 1
  pub list_end : EndsListedLabels tokens mandatory index word rest
  pub label : IsTrue (is_label word)
  pub named : IsTrue (has_name word mandatory)

-- all tokens after `(` are labels that may be listed
pub record IsUnclosed (tokens mandatory : List Name) : Type 0 where
  pub words : List Name
  pub whole : tokens ≡ left_parenthesis ∷ words
  pub listed : IsFalse (list_any (has_fault mandatory token_fault.NotListable) words)

-- the letters after `)` break a rule
pub record AreLettersBroken (tokens mandatory : List Name) (broken : LetterBreak) : Type 0 where
  pub index : ℕ
  pub rest : List Name
  pub list_end : EndsListedLabels tokens mandatory index right_parenthesis rest
  pub letters : IsLetterBreak (mandatory ++ list_end.first.front) (joined rest) broken

-- the rule that the tokens break under these mandatory labels; a token has a `?` only if the rule
-- is `Unfinished`
abbrev pub IsBreak : List Name → List Name → CodeBreak → Type 0
IsBreak tokens mandatory (Unfinished token) = (word : Name) × (rest : List Name) × IsFirst (has_fault mandatory token_fault.Unfinished) tokens token word rest
IsBreak tokens mandatory (NotLabel token) = IsFalse (is_unfinished tokens) × IsNotLabel tokens mandatory token
IsBreak tokens mandatory (Mandatory token) = IsFalse (is_unfinished tokens) × IsMandatory tokens mandatory token
IsBreak tokens mandatory Unclosed = IsFalse (is_unfinished tokens) × IsUnclosed tokens mandatory
IsBreak tokens mandatory (Letters broken) = IsFalse (is_unfinished tokens) × AreLettersBroken tokens mandatory broken
