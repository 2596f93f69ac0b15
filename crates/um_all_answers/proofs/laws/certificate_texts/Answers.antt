use Rattle.um_all_answers.proofs.ReadCertificates.{texts_determine_certificates}
use Rattle.um_all_answers.proofs.Made.{texts_determine_proofs}
use Rattle.um_all_answers.proofs.laws.certificate_texts.Goals as goal

pub returns : goal.returns
returns c = record { texts = texts_determine_certificates; proofs = texts_determine_proofs }
