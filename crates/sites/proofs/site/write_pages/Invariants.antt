use Rattle.sites.proofs.Words.{take, IsPage, WritesPages, page_files}
use Rattle.sites.proofs.site.write_pages.Given as goal

abbrev pub invariant-loop-index : goal.invariant-loop-index
invariant-loop-index g l =
    WritesPages g.S.Folder.writes (IsPage l.fn.site.library.now.replica.statements l.fn.site.is_unproved.now l.fn.site.text.now)
    l.fn.folder (page_files 1 (take l.index l.fn.site.library.now.replica.statements)) l.folder
