use Rattle.documents.proofs.Runs.{promise}
use Rattle.documents.proofs.promise.promise_holds.Goals as goal

pub returns : goal.returns
returns g c = promise g.R.Rows.columns g.met.R.Rows.lawful
