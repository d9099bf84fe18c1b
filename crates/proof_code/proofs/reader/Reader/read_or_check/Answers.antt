use Rattle.proof_code.proofs.Words.{arith, ap, length, take, with_items_is, ◌≡◌, ◌+◌, ◌∷◌, refl, sym, left_parenthesis}
use Rattle.proof_code.proofs.ListingLemmas.{listing-none, listing-some}
use Rattle.proof_code.proofs.WritesLemmas.{begins, without_header}
use Rattle.proof_code.proofs.ReadProofLemmas.{marked_first, unnumbered, heading}
use Rattle.proof_code.proofs.reader.Reader.read_or_check.Goals as goal

pub returns-in_err-count-clause-read : goal.returns-in_err-count-clause-read
returns-in_err-count-clause-read c =
    rw c.from_residual.ensures (λ labels long. without_header _ _ (begins _ _ _ c.next.result c.next.ensures.steps c.iter-words.ensures.words c.requires.compressed) (listing-none c.next.new.self c.as_text.result.now c.as_text.ensures.words c.as_text.ensures.text c.in_err-count.ensures.listed_count) labels)

pub returns-then-starts_with_mark-clause-read : goal.returns-then-starts_with_mark-clause-read
returns-then-starts_with_mark-clause-read c =
    let found = listing-some c.next.new.self c.as_text.result.now _ _ c.as_text.ensures.words c.as_text.ensures.text c.in_ok-count.ensures.listed_count in
    λ labels long. marked_first _ _ _ _ (begins _ _ _ c.next.result c.next.ensures.steps c.iter-words.ensures.words c.requires.compressed) c.iter-words.ensures.visible found c.args.mandatory (c.args.mandatory + c.in_ok-count.count) refl (sym c.if-starts_with_mark.ensures) labels

pub returns-in_err-check_letters-clause-read : goal.returns-in_err-check_letters-clause-read
returns-in_err-check_letters-clause-read c =
    let found = listing-some c.next.new.self c.as_text.result.now _ _ c.as_text.ensures.words c.as_text.ensures.text c.in_ok-count.ensures.listed_count in
    rw c.from_residual-in_err-check_letters.ensures (unnumbered _ _ _ _ (begins _ _ _ c.next.result c.next.ensures.steps c.iter-words.ensures.words c.requires.compressed) c.iter-words.ensures.visible found c.args.mandatory (c.args.mandatory + c.in_ok-count.count) refl c.in_err-check_letters.ensures)

pub returns-then-is_err-clause-read : goal.returns-then-is_err-clause-read
returns-then-is_err-clause-read c =
    let starts : c.args.tokens.now ≡ left_parenthesis ∷ c.next.new.self = begins _ _ _ c.next.result c.next.ensures.steps c.iter-words.ensures.words c.requires.compressed in
    let found = listing-some c.next.new.self c.as_text.result.now _ _ c.as_text.ensures.words c.as_text.ensures.text c.in_ok-count.ensures.listed_count in
    let read = c.in_ok-check_letters.ensures in
    (starts, read.0, heading _ _ _ _ starts c.iter-words.ensures.visible found c.args.mandatory (c.args.mandatory + c.in_ok-count.count) refl read.0 (sym c.if-starts_with_mark.ensures) read.1, tt)

pub returns-in_err-self-inside-clause-read : goal.returns-in_err-self-inside-clause-read
returns-in_err-self-inside-clause-read c =
    let found = listing-some c.next.new.self c.as_text.result.now _ _ c.as_text.ensures.words c.as_text.ensures.text c.in_ok-count.ensures.listed_count in
    rw c.from_residual-in_err-self-inside.ensures (unnumbered _ _ _ _ (begins _ _ _ c.next.result c.next.ensures.steps c.iter-words.ensures.words c.requires.compressed) c.iter-words.ensures.visible found c.args.mandatory (c.args.mandatory + c.in_ok-count.count) refl c.in_err-self-inside.ensures.none)

pub returns-clause-read : goal.returns-clause-read
returns-clause-read c =
    let starts : c.args.tokens.now ≡ left_parenthesis ∷ c.next.new.self = begins _ _ _ c.next.result c.next.ensures.steps c.iter-words.ensures.words c.requires.compressed in
    let found = listing-some c.next.new.self c.as_text.result.now _ _ c.as_text.ensures.words c.as_text.ensures.text c.in_ok-count.ensures.listed_count in (
      starts,
      _,
      heading _ _ _ _ starts c.iter-words.ensures.visible found c.args.mandatory (c.args.mandatory + c.in_ok-count.count) refl _ (sym c.if-starts_with_mark.ensures) c.in_ok-self-inside.ensures.some,
      ap (take _) (sym (with_items_is c.make_room.new.buffer c.write_numbers.new.numbers (omega (arith, c.write_numbers.auto.numbers, c.deref_mut.ensures.len, ap length c.deref_mut.ensures.value, c.make_room.new.buffer.ok.0)))),
    )
