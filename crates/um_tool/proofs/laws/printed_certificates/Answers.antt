use Rattle.um_tool.proofs.PrintedCertificates.{printed_certificates_are_valid, refused_certificates_pass}
use Rattle.um_tool.proofs.PrintedRefusals.{printed_certificates_end_as_types}
use Rattle.um_tool.proofs.laws.printed_certificates.Goals as goal

pub returns : goal.returns
returns c = record { valid = printed_certificates_are_valid; types = printed_certificates_end_as_types; refused = refused_certificates_pass }
