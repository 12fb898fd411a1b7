use Rattle.zk_records.proofs.OneConnect.{one_response}
use Rattle.zk_records.proofs.laws.one_connect_response.Goals as goal

pub returns : goal.returns
returns c = one_response
