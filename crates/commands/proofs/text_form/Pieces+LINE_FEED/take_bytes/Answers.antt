use Rattle.commands.proofs.Words.{◌≡◌, ◌==◌, ◌+◌, ◌∙◌, Some, ap, sym, true, false, take, get_or, rules, arith, common_steps, split_at, bytes_before}
use Rattle.commands.proofs.TextsLemmas.{bytes_found, bytes_missing, text_and_rest}
use Rattle.commands.proofs.text_form.Pieces+LINE_FEED.take_bytes.Goals as goal

pub returns-then-is_line_feed_at-clause-text : goal.returns-then-is_line_feed_at-clause-text
returns-then-is_line_feed_at-clause-text c =
    let whole : c.args.self.now ≡ split_at 10 c.in_ok-all.all.now = first_of (search rules, cc, grind (arith, common_steps)) in
    let feed : (get_or c.in_ok-all.all.now c.args.count 0 == 10) ≡ true = cc in
    ap (bytes_before c.args.count) whole
    ∙ (bytes_found c.args.count c.in_ok-all.all.now feed
    ∙ ap (λ k. Some (take c.args.count c.in_ok-all.all.now, k + 1)) (sym c.line_feeds.ensures))

pub returns-then-is_line_feed_at-clause-rest : goal.returns-then-is_line_feed_at-clause-rest
returns-then-is_line_feed_at-clause-rest c =
    let whole : c.args.self.now ≡ split_at 10 c.in_ok-all.all.now = first_of (search rules, cc, grind (arith, common_steps)) in
    let feed : (get_or c.in_ok-all.all.now c.args.count 0 == 10) ≡ true = cc in
    let so : c.is_line_feed_at.result ≡ true = cc in
    text_and_rest c.args.count c.in_ok-all.all.now c.args.self.now c.line_feeds.result whole (c.is_line_feed_at.ensures.inside so) feed c.line_feeds.ensures

pub returns-clause-text : goal.returns-clause-text
returns-clause-text c =
    let whole : c.args.self.now ≡ split_at 10 c.in_ok-all.all.now = first_of (search rules, cc, grind (arith, common_steps)) in
    let feed : (get_or c.in_ok-all.all.now c.args.count 0 == 10) ≡ false = cc in
    ap (bytes_before c.args.count) whole ∙ bytes_missing c.args.count c.in_ok-all.all.now feed
