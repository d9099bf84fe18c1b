-- A line that needs no text from the lines that follow, and a line that offers a text.
use Rattle.commands.proofs.Words.{◌≡◌, ℕ, ◌+◌, Bool, true, false, List, drop, Option, Some, None, option_map, option_and_then, Result, Ok, Err, IsSome, IsErrAnd, ◌∷◌, refl, ◌∙◌, ap, sym, subst, arith, false≢true, Text, NodeEntryId, OfferedEntry, LineFault, ServeLine, SessionLine, Serve, Help, TextForm, split_at, SPACE, Words, by_first_word, line_by_first_word, first_entry_id, text_in_form, text_offer, RemainingLines, IsAdvanced, Parses, ParsesLine, without_text, text_line_or_else, help_or_line}
use Rattle.commands.specs.declared.script.LineFault.TheVariants.{Bad, Memory as NoMemory}

-- no line is taken
pub advanced_none : (lines : RemainingLines) → IsAdvanced 0 lines lines
advanced_none lines = record { number = omega arith; lines = refl }

-- an allocation fails for a line without a text
without_text_unparsed : {L : Type 0} (expected : Option L) (lines : RemainingLines) → IsSome expected → ParsesLine (without_text expected) lines lines (Err NoMemory)
without_text_unparsed None lines h = absurd (false≢true h)
without_text_unparsed (Some x) lines h = ((x, 0), refl, advanced_none lines)

-- a line without a text takes no other line
pub without_text_parsed : {L : Type 0} (expected : Option L) (lines : RemainingLines) (r : Result L LineFault) → Parses expected r → ParsesLine (without_text expected) lines lines r
without_text_parsed expected lines (Ok x) h = (0, ap without_text h, advanced_none lines)
without_text_parsed expected lines (Err Bad) h = ap without_text h
without_text_parsed expected lines (Err NoMemory) h = without_text_unparsed expected lines h

-- the line that is made from an offer, in place of the offer
abbrev pub text_line : {L : Type 0} → (OfferedEntry → L) → Option (OfferedEntry × ℕ) → Option (L × ℕ)
text_line line offered = option_map (λ o. (line o.0, o.1)) offered

pub text_parsed : {L : Type 0} (line : OfferedEntry → L) (offered : Option (OfferedEntry × ℕ)) (old new : RemainingLines) (o : OfferedEntry)
    → ParsesLine offered old new (Ok o) → ParsesLine (text_line line offered) old new (Ok (line o))
text_parsed line offered old new o h = (h.0, ap (text_line line) h.1, h.2)

text_unparsed : {L : Type 0} (line : OfferedEntry → L) (offered : Option (OfferedEntry × ℕ)) (old new : RemainingLines) (fault : LineFault)
    → ParsesLine offered old new (Err fault) → ParsesLine (text_line line offered) old new (Err fault)
text_unparsed line offered old new Bad h = ap (text_line line) h
text_unparsed line offered old new NoMemory h = ((line (h.0).0, (h.0).1), ap (text_line line) h.1, h.2)

-- the offer of a text at a node, by its author and its number
abbrev pub offered_text : NodeEntryId → List ℕ → OfferedEntry
offered_text at text = record { node = at.node; entry = Text (record { author = at.author; serial = at.serial; text = text }) }

pub offered_found : (form : TextForm) (ws rest : Words) (lines : List (List ℕ)) (at : NodeEntryId) (text : List ℕ) (count : ℕ)
    → Some (at, rest) ≡ first_entry_id ws → text_in_form form rest lines ≡ Some (text, count) → text_offer form ws lines ≡ Some (offered_text at text, count)
offered_found form ws rest lines at text count is found =
    ap (λ o. option_and_then (λ e. option_and_then (λ t. Some (offered_text e.0 t.0, t.1)) (text_in_form form e.1 lines)) o) (sym is)
    ∙ ap (λ o. option_and_then (λ t. Some (offered_text at t.0, t.1)) o) found

pub offered_missing : (form : TextForm) (ws rest : Words) (lines : List (List ℕ)) (at : NodeEntryId)
    → Some (at, rest) ≡ first_entry_id ws → text_in_form form rest lines ≡ None → text_offer form ws lines ≡ None
offered_missing form ws rest lines at is none =
    ap (λ o. option_and_then (λ e. option_and_then (λ t. Some (offered_text e.0 t.0, t.1)) (text_in_form form e.1 lines)) o) (sym is)
    ∙ ap (λ o. option_and_then (λ t. Some (offered_text at t.0, t.1)) o) none

-- an error that is passed on
pub handed_on : {L : Type 0} (r : Result L LineFault) (fault : LineFault) → IsErrAnd r (λ f. f ≡ fault) → Err fault ≡ r
handed_on (Err f) fault h = ap Err (sym h)
handed_on (Ok x) fault h = elim h [ ]

-- a line, by its verb
pub parsed_by : {L : Type 0} (by : List ℕ → Words → Option (L × ℕ)) (old new : RemainingLines) (bytes verb : List ℕ) (ws : Words) (r : Result L LineFault)
    → split_at SPACE bytes ≡ verb ∷ ws → ParsesLine (by verb ws) old new r → ParsesLine (line_by_first_word by bytes) old new r
parsed_by by old new bytes verb ws r words parses = subst (λ s. ParsesLine s old new r) (ap (by_first_word by) (sym words)) parses

module _ {L : Type 0} (line : OfferedEntry → L) (expected : Option (L × ℕ)) (ws : Words) (old new : RemainingLines) where
  -- a verb that offers no text
  pub parsed_other : (form : Option TextForm) (r : Result L LineFault) → None ≡ form → ParsesLine expected old new r
      → ParsesLine (text_line_or_else line form expected ws old.lines) old new r
  parsed_other form r none parses = subst (λ f. ParsesLine (text_line_or_else line f expected ws old.lines) old new r) none parses

  -- a text that is parsed
  pub parsed_text : (form : Option TextForm) (f : TextForm) (o : OfferedEntry) → Some f ≡ form → ParsesLine (text_offer f ws old.lines) old new (Ok o)
      → ParsesLine (text_line_or_else line form expected ws old.lines) old new (Ok (line o))
  parsed_text form f o some parses =
      subst (λ g. ParsesLine (text_line_or_else line g expected ws old.lines) old new (Ok (line o))) some (text_parsed line (text_offer f ws old.lines) old new o parses)

  -- a text that is not parsed
  pub parsed_fault : (form : Option TextForm) (f : TextForm) (fault : LineFault) (r : Result L LineFault) → Some f ≡ form
      → ParsesLine (text_offer f ws old.lines) old new (Err fault) → IsErrAnd r (λ f. f ≡ fault)
      → ParsesLine (text_line_or_else line form expected ws old.lines) old new r
  parsed_fault form f fault r some parses handed =
      subst (λ g. ParsesLine (text_line_or_else line g expected ws old.lines) old new r) some
      (subst (ParsesLine (text_line line (text_offer f ws old.lines)) old new) (handed_on r fault handed)
      (text_unparsed line (text_offer f ws old.lines) old new fault parses))

-- a line of a script, as a line of a session
abbrev serve_line : Option (ServeLine × ℕ) → Option (SessionLine × ℕ)
serve_line expected = option_map (λ l. (Serve l.0, l.1)) expected

session_unparsed : (expected : Option (ServeLine × ℕ)) (old new : RemainingLines) (fault : LineFault) → ParsesLine expected old new (Err fault)
    → ParsesLine (serve_line expected) old new (Err fault)
session_unparsed expected old new Bad h = ap serve_line h
session_unparsed expected old new NoMemory h = ((Serve (h.0).0, (h.0).1), ap serve_line h.1, h.2)

pub session_help : (is_help : Bool) → is_help ≡ true → (expected : Option (ServeLine × ℕ)) (lines : RemainingLines)
    → ParsesLine (help_or_line is_help expected) lines lines (Ok Help)
session_help is_help is expected lines = (0, ap (λ b. help_or_line b expected) is, advanced_none lines)

module _ (is_help : Bool) (other : is_help ≡ false) (expected : Option (ServeLine × ℕ)) (old new : RemainingLines) where
  pub session_parsed : (l : ServeLine) → ParsesLine expected old new (Ok l) → ParsesLine (help_or_line is_help expected) old new (Ok (Serve l))
  session_parsed l h = (h.0, ap (λ b. help_or_line b expected) other ∙ ap serve_line h.1, h.2)

  pub session_fault : (fault : LineFault) (r : Result SessionLine LineFault) → ParsesLine expected old new (Err fault) → IsErrAnd r (λ f. f ≡ fault)
      → ParsesLine (help_or_line is_help expected) old new r
  session_fault fault r h handed =
      subst (λ b. ParsesLine (help_or_line b expected) old new r) (sym other)
      (subst (ParsesLine (serve_line expected) old new) (handed_on r fault handed) (session_unparsed expected old new fault h))
