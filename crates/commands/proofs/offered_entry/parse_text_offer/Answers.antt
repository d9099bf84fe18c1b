use Rattle.commands.proofs.Words.{◌≡◌, ℕ, Some, rules, first_entry_id, IsAdvanced, text_in_form}
use Rattle.commands.proofs.LineLemmas.{offered_text, offered_found}
use Rattle.commands.proofs.offered_entry.parse_text_offer.Goals as goal

pub returns-in_default : goal.returns-in_default
returns-in_default c =
    let is : Some (c.in_ok-entry_id.entry_id, c.take_entry_id.new.self) ≡ first_entry_id c.args.words = search rules in
    let taken : (count : ℕ) × (text_in_form c.args.form c.take_entry_id.new.self c.args.lines.now.lines ≡ Some (c.in_ok-text.text.now, count))
    × IsAdvanced count c.args.lines.now c.take_text.new.lines = search rules in (
      (offered_text c.in_ok-entry_id.entry_id c.in_ok-text.text.now, taken.0),
      offered_found c.args.form c.args.words c.take_entry_id.new.self c.args.lines.now.lines c.in_ok-entry_id.entry_id c.in_ok-text.text.now taken.0 is taken.1,
      taken.2,
    )
