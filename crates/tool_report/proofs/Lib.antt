pub mod AcceptingCertificates
pub mod CheckFaultLines
pub mod ExplanationsNotes
pub mod ProfileLinesListed
pub mod SurveysAnswered
