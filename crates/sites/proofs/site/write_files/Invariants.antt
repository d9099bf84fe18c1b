use Rattle.sites.proofs.Words.{length, map, WritesFiles, file_of}
use Rattle.sites.proofs.site.write_files.Given as goal

abbrev pub invariant-loop-page : goal.invariant-loop-page
invariant-loop-page g l =
    (last : _) → WritesFiles g.S.Folder.writes l.folder (map file_of l.rest) last → WritesFiles g.S.Folder.writes l.fn.folder (map file_of l.pages) last

abbrev pub decreases-loop-page : goal.decreases-loop-page
decreases-loop-page g l = length l.rest
