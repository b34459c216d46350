use Rattle.response_bytes.proofs.Bits as lemmas
use Rattle.response_bytes.proofs.response.response_map.Goals as goal

pub returns : goal.returns
returns c = λ es code a e. lemmas.response_map c.args.first es code a e
