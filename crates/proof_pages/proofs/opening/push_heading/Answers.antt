use Rattle.std.specs.Prelude.{codes}
use Rattle.text.specs.Escapes.{html_text}
use Rattle.proof_pages.proofs.AppendLemmas.{three-last}
use Rattle.proof_pages.proofs.opening.push_heading.Goals as goal

pub returns : goal.returns
returns c =
    three-last c.extend_from_slice-2.result c.args.page.now.items c.extend_from_slice.new.self.items c.push_html.new.page.items c.extend_from_slice-2.new.self.items (codes "</head>\n<body>\n<h1>") (html_text c.args.title.now) (codes "</h1>\n")
    c.in_ok-extend_from_slice.ensures.items c.in_ok-push_html.ensures.written c.extend_from_slice-2.ensures.items
