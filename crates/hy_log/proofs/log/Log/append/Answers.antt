use Rattle.std.proofs.Common.{◌+◌}
use Rattle.hy_log.specs.Courses.{note_of_heard, note_of_return, note_of_update}
use Rattle.hy_log.proofs.Keeping.{appended, noted-thrice}
use Rattle.hy_log.proofs.log.Log.append.Goals as goal

pub returns-clause-keeps : goal.returns-clause-keeps
returns-clause-keeps c =
    let log = c.args.self.now in
    let effects = c.args.effects in
    let notes = noted-thrice log.courses c.note.new.self c.note-2.new.self c.note-3.new.self c.note_of_heard.result c.note_of_return.result c.note_of_update.result
    (note_of_heard effects.heard) (note_of_return (log.steps + 1) effects.returned) (note_of_update (log.steps + 1) effects.updated)
    c.in_ok-note.ensures c.in_ok-note-2.ensures c.in_ok-note-3.ensures c.note_of_heard.ensures c.note_of_return.ensures c.note_of_update.ensures in
    λ p d t are logs. appended p d t effects log.posts.items c.add_posts.new.posts.items log.starts.items c.add_start.new.starts.items log.courses c.note-3.new.self log.steps are logs
    c.in_ok-add_posts.ensures c.in_ok-add_start.ensures notes
