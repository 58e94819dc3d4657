use Rattle.wh_strategy.proofs.earlier.Tables.note.Goals as goal

pub returns : goal.returns
returns c = λ before tells. record { installed = c.note.ensures before tells.installed; taken = c.note-2.ensures before tells.taken; read = c.note-3.ensures before tells.read }
