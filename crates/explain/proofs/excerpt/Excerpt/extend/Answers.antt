use Rattle.explain.proofs.Words.{◌≡◌, ◌∙◌, ◌-◌, ◌++◌, length, take, ap, arith}
use Rattle.explain.specs.declared.excerpt.TheConstants.{EXCERPT_LEN}
use Rattle.explain.proofs.ExcerptLemmas.{excerpt_more}
use Rattle.explain.proofs.excerpt.Excerpt.extend.Goals as goal

pub returns : goal.returns
returns c e is =
    let room : c.saturating_sub-room.result ≡ EXCERPT_LEN - length c.args.self.now.symbols.items = omega (arith, c.saturating_sub-room.ensures, c.len.ensures) in
    excerpt_more e c.args.more.now c.args.self.now (record { symbols = c.extend_from_slice.new.self; len = c.in-Some.len }) is
    (c.in_ok-extend_from_slice.ensures.items ∙ ap (λ l. c.args.self.now.symbols.items ++ l) (c.first_symbols.ensures ∙ ap (λ n. take n c.args.more.now) room))
    (omega (arith, c.in-Some.ensures))
