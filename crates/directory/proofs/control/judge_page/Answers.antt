-- By kind and by place in the chain: a file's page has no fault; a directory's first page is judged past its control field, a later page by its whole length.
-- A root page shorter than its control field has no bytes of entries: 4 is told before its chain is walked.
use Rattle.std.specs.Prelude.{Ok}
use Rattle.directory.proofs.ControlLaws.{of_kind, file_page, root_first, root_first_short, root_later, sub_first, sub_later}
use Rattle.directory.proofs.control.judge_page.Goals as goal

pub returns-then-bytes-skip : goal.returns-then-bytes-skip
returns-then-bytes-skip c =
    of_kind _ _ _ _ _ _ _ c.in-Root.is (root_first_short _ _ _ _ _ c.control_size-skip.ensures.0 _ c.if-i-eq0.true c.if-bytes-skip.true
    c.judge_whole.ensures)

pub returns-then-i-eq0 : goal.returns-then-i-eq0
returns-then-i-eq0 c =
    of_kind _ _ _ _ _ _ _ c.in-Root.is (root_first _ _ _ _ _ c.control_size-skip.ensures.0 _ c.if-i-eq0.true c.judge_whole-then-i-eq0.ensures)

pub returns-then-i-eq0-2 : goal.returns-then-i-eq0-2
returns-then-i-eq0-2 c =
    of_kind _ _ _ _ _ _ _ c.in-Sub.is (sub_first _ _ _ _ _ _ _ c.if-i-eq0-2.true c.judge_sub.ensures)

pub returns-in-File : goal.returns-in-File
returns-in-File c = of_kind _ _ _ _ _ _ (Ok tt) c.in-File.is (file_page _ _ _ _)

pub returns-else-i-eq0 : goal.returns-else-i-eq0
returns-else-i-eq0 c = of_kind _ _ _ _ _ _ _ c.in-Root.is (root_later _ _ _ _ _ c.if-i-eq0.false c.judge_whole-in-Root.ensures)

pub returns-else-i-eq0-2 : goal.returns-else-i-eq0-2
returns-else-i-eq0-2 c =
    of_kind _ _ _ _ _ _ _ c.in-Sub.is (sub_later _ _ _ _ _ _ _ c.if-i-eq0-2.false c.judge_whole-in-Sub.ensures)
