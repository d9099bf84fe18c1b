-- A statement is appended, or the last ones are removed: the numbers and groups of the others stay.
use Rattle.entries.proofs.Words.{◌≡◌, ℕ, ◌+◌, ◌-◌, ◌<◌, ◌^◌, true, false, Bool, List, [], ◌∷◌, ◌++◌, length, slice_get, slice_range, take, drop, Some, None, refl, ◌||◌, Result, Ok, Err, OnOk, OnErr, is_err, ◌∙◌, ap, sym, subst, arith, length-append, length-take-le, take-append-drop, drop_more, nil_from_length, slice_get_within, get_or_from_slice_get, take-append_seam, take-length, BufferPart, StatementRecord, Layout, AreShapedParts, assertion_of, AreSpansIn, Extends, counts_of, has_parts, numbers_of, record_by, layout_in, numbers_by, spans_by, entry_by, entry_of, entries_of, IsKept, AreKept, ArePacked, ltb-false, nat_lt, EntryHeader, AssertionParts}
use Rattle.entries.proofs.SpanLemmas.{range-behind, extends-refl, extends-take, extends-trans}
use Rattle.entries.proofs.StatementRecordLemmas.{within, kept-at}
use Rattle.entries.proofs.BufferPlaceLemmas.{entries-before, kept-before, kept-cut}

-- ---- a statement is appended

-- the numbers and groups are as many as the layout says
pub record IsLaid (at : Layout) (run : List ℕ) (spans : List BufferPart) : Type 0 where
  pub whole : at.end ≡ length run
  pub count : at.group_count ≡ length spans
  pub grouped : AreSpansIn (at.end - at.grouped_variables) spans

module _ (ns ms : List ℕ) (gs hs : List BufferPart) (rs qs : List StatementRecord) (r : StatementRecord) (run : List ℕ) (spans : List BufferPart)
    (packed : ArePacked ns gs rs) (numbers : ms ≡ ns ++ run) (groups : hs ≡ gs ++ spans) (records : qs ≡ rs ++ r ∷ []) (from : r.from ≡ length ns) (begins : r.groups_from ≡ length gs) where
  last-run : numbers_by ms r None ≡ run
  last-run = range-behind ns run ms ms r.from (length ms) from numbers refl (extends-refl ms)

  last-spans : spans_by hs r None ≡ spans
  last-spans = range-behind gs spans hs hs r.groups_from (length hs) begins groups refl (extends-refl hs)

  pub entries-push : entries_of ms hs qs ≡ entries_of ns gs rs ++ entry_of r run spans ∷ []
  entries-push =
      ap (entries_of ms hs) records
      ∙ (entries-before ns ms gs hs r [] (run, numbers) (spans, groups) from begins rs packed.kept
      ∙ ap (λ e. entries_of ns gs rs ++ e ∷ []) (let e = last-run in let f = last-spans in cc))

  pub packed-push : IsLaid (layout_in r.has_parts run) run spans → length rs + 2 < 2 ^ 32 → ArePacked ms hs qs
  packed-push laid few =
      let n = length-append ns run in let l = ap length numbers in
      let m = length-append gs spans in let j = ap length groups in
      let k = length-append rs (r ∷ []) in
      let kept : IsKept ms hs r None = record {
        placed = record { from = omega arith; end = omega arith; whole = rw last-run laid.whole };
        grouped = record { count = rw last-run (omega arith); end = omega arith; spans = rw (last-run, last-spans) laid.grouped };
      } in
      subst (ArePacked ms hs) (sym records) (record {
        kept = kept-before ns ms gs hs r [] (run, numbers) (spans, groups) from begins rs packed.kept (kept, tt);
        few = omega arith;
      })

-- ---- the parts of the statement are those that were appended

-- a statement without parts has no size, and neither hypotheses nor groups
pub record IsBare (size : ℕ) (p : AssertionParts) : Type 0 where
  pub sizeless : size ≡ 0
  pub hypotheses : p.hypotheses.now ≡ []
  pub numbered_hypotheses : p.numbered_hypotheses.now ≡ []
  pub typecodes : p.typecodes.now ≡ []
  pub groups : p.groups.now ≡ []

neither : (a b : Bool) → (a || b) ≡ false → (a ≡ false) × (b ≡ false)
neither false b h = (refl, h)
neither true b h = absurd (cc)

bare : (size : ℕ) (p : AssertionParts) → AreShapedParts p → has_parts size p ≡ false → IsBare size p
bare size p shaped none =
    let both = neither (nat_lt 0 size) (nat_lt 0 (length p.hypotheses.now + length p.groups.now)) none in
    let m = ltb-false 0 size both.0 in let n = ltb-false 0 (length p.hypotheses.now + length p.groups.now) both.1 in
    let s = shaped in
    record { sizeless = omega arith; hypotheses = nil_from_length _ (omega arith); numbered_hypotheses = nil_from_length _ (omega arith); typecodes = nil_from_length _ (omega arith); groups = nil_from_length _ (omega arith) }

pub run-laid : (size : ℕ) (p : AssertionParts) (t : Bool) → AreShapedParts p → has_parts size p ≡ t → IsLaid (layout_in t (numbers_of t size p)) (numbers_of t size p) p.groups.now
run-laid size p true shaped e =
    let n : length p.grouped_variables.now ≡ (layout_in true (numbers_of true size p)).end - (layout_in true (numbers_of true size p)).grouped_variables = omega arith in
    let s = shaped in
    record { whole = simp length-append (omega arith); count = refl; grouped = subst (λ m. AreSpansIn m p.groups.now) n shaped.grouped }
run-laid size p false shaped e =
    let b = bare size p shaped e in
    record { whole = omega arith; count = sym (ap length b.groups); grouped = rw b.groups tt }

pub run-entry : (h : EntryHeader) (p : AssertionParts) (from groups : ℕ) (t : Bool) → AreShapedParts p → has_parts h.size p ≡ t → entry_of (record_by h t p.whole from groups) (numbers_of t h.size p) p.groups.now ≡ entry_by h p.symbols.now (assertion_of p)
run-entry h p from groups true shaped e =
    let s = shaped in
    let typecodes = counts_of h.size p ++ p.typecodes.now in
    let numbered_hypotheses = typecodes ++ p.numbered_hypotheses.now in
    let symbols = numbered_hypotheses ++ p.symbols.now in
    let hypotheses = symbols ++ p.hypotheses.now in
    let run = hypotheses ++ p.grouped_variables.now in
    let to_hypotheses : Extends hypotheses run = (p.grouped_variables.now, refl) in
    let to_symbols : Extends symbols run = extends-trans symbols hypotheses run (p.hypotheses.now, refl) to_hypotheses in
    let to_required : Extends numbered_hypotheses run = extends-trans numbered_hypotheses symbols run (p.symbols.now, refl) to_symbols in
    let to_typecodes : Extends typecodes run = extends-trans typecodes numbered_hypotheses run (p.numbered_hypotheses.now, refl) to_required in
    let l = layout_in true run in
    let size : l.size ≡ h.size = omega arith in
    let i = length-append (counts_of h.size p) p.typecodes.now in let j = length-append typecodes p.numbered_hypotheses.now in let k = length-append numbered_hypotheses p.symbols.now in
    let m = length-append symbols p.hypotheses.now in let n = length-append hypotheses p.grouped_variables.now in
    let u = range-behind (counts_of h.size p) p.typecodes.now typecodes run l.typecodes l.numbered_hypotheses (omega arith) refl (omega arith) to_typecodes in
    let v = range-behind typecodes p.numbered_hypotheses.now numbered_hypotheses run l.numbered_hypotheses l.symbols (omega arith) refl (omega arith) to_required in
    let w = range-behind numbered_hypotheses p.symbols.now symbols run l.symbols l.hypotheses (omega arith) refl (omega arith) to_symbols in
    let x = range-behind symbols p.hypotheses.now hypotheses run l.hypotheses l.grouped_variables (omega arith) refl (omega arith) to_hypotheses in
    let y = range-behind hypotheses p.grouped_variables.now run run l.grouped_variables l.end (omega arith) refl (omega arith) (extends-refl run) in
    cc
run-entry h p from groups false shaped e =
    let b = bare h.size p shaped e in
    let none = b.sizeless in
    let at = layout_in false p.symbols.now in
    let n : at.hypotheses - 0 ≡ length p.symbols.now = omega arith in
    let m : at.grouped_variables - at.hypotheses ≡ 0 = omega arith in
    let u : slice_range p.symbols.now 0 at.hypotheses ≡ p.symbols.now = ap (λ k. take k p.symbols.now) n ∙ take-length p.symbols.now in
    let v : slice_range p.symbols.now at.hypotheses at.grouped_variables ≡ [] = ap (λ k. take k (drop at.hypotheses p.symbols.now)) m in
    rw (b.hypotheses, b.numbered_hypotheses, b.typecodes, b.groups) cc

-- ---- the last statements are removed

module _ (ms : List ℕ) (hs : List BufferPart) (us : List StatementRecord) (n : ℕ) (s : StatementRecord) (packed : ArePacked ms hs us) (here : slice_get us n ≡ Some s) where
  abbrev a : List ℕ
  a = take s.from ms

  abbrev g : List BufferPart
  g = take s.groups_from hs

  split : take n us ++ s ∷ drop (n + 1) us ≡ us
  split =
      ap (λ xs. take n us ++ xs) (sym (drop_more us n s (slice_get_within us n s here) ∙ ap (λ x. x ∷ drop (n + 1) us) (get_or_from_slice_get us n s s here)))
      ∙ take-append-drop n us

  from-length : s.from ≡ length a
  from-length = let k = (kept-at ms hs s us n packed.kept here).placed in sym (length-take-le s.from ms (omega arith))

  groups-length : s.groups_from ≡ length g
  groups-length = let k = (kept-at ms hs s us n packed.kept here).grouped in sym (length-take-le s.groups_from hs (omega arith))

  kept-fewer : AreKept a g (take n us)
  kept-fewer = kept-cut a ms g hs s (drop (n + 1) us) (extends-take s.from ms) (extends-take s.groups_from hs) from-length groups-length (take n us) (subst (AreKept ms hs) (sym split) packed.kept)

  fewer-length : length (take n us) ≡ n
  fewer-length = let w = slice_get_within us n s here in length-take-le n us (omega arith)

  pub packed-fewer : ArePacked a g (take n us)
  packed-fewer = record { kept = kept-fewer; few = let m = packed.few in let w = slice_get_within us n s here in let l = fewer-length in omega arith }

  pub entries-fewer : entries_of a g (take n us) ≡ take n (entries_of ms hs us)
  entries-fewer =
      let es = entries_of a g (take n us) in
      let more = entries_of ms hs (s ∷ drop (n + 1) us) in
      let e = entries-before a ms g hs s (drop (n + 1) us) (extends-take s.from ms) (extends-take s.groups_from hs) from-length groups-length (take n us) kept-fewer in
      sym (ap (λ xs. take n (entries_of ms hs xs)) (sym split) ∙ (ap (take n) e ∙ (ap (λ k. take k (es ++ more)) (sym (within a g (take n us) ∙ fewer-length)) ∙ take-append_seam es more)))

-- ---- the outcome of an allocation

pub on-ok : {T E : Type 0} (r : Result T E) (P : Type 0) → is_err r ≡ false → OnOk r P → P
on-ok (Ok x) P h p = p
on-ok (Err e) P h p = absurd (cc)

pub on-err : {T E : Type 0} (r : Result T E) (P : Type 0) → is_err r ≡ true → OnErr r P → P
on-err (Ok x) P h p = absurd (cc)
on-err (Err e) P h p = p

pub ok-weaker : {T E : Type 0} (r : Result T E) (P Q : Type 0) → (P → Q) → OnOk r P → OnOk r Q
ok-weaker (Ok x) P Q f p = f p
ok-weaker (Err e) P Q f p = tt
