use Rattle.tr_mirror.proofs.BoundLemmas.{writes_on_largest}
use Rattle.tr_mirror.proofs.readers.Reader.note.Goals as goal

pub with-self-inside-requires : goal.with-self-inside-requires
with-self-inside-requires c = writes_on_largest c.args.self.now.standing c.args.self.now.fed c.requires.bounded c.args.header c.requires.sound
