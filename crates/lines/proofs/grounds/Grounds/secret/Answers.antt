-- `lines::grounds::Grounds::secret` meets its contract.
use Rattle.promise.specs.Layout.{dossier_at}
use Rattle.lines.proofs.grounds.Grounds.secret.Goals as goal

pub returns : goal.returns
unfolding dossier_at
returns c = rw (c.entry_at.ensures, ← c.self.view_is)
