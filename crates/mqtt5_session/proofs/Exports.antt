-- What the proofs of crates above may cite of these: which sessions are sound, and that each call keeps them so; how a publish
-- is judged; and what a resume sends.
pub use Rattle.mqtt5_session.proofs.Owed.{choose, Judges, judges}
pub use Rattle.mqtt5_session.proofs.Keeps.{Sound, inc_sound, out_sound, after_sound, resume_core, marked_sound, id_positive}
pub use Rattle.mqtt5_session.proofs.Resume.{resumes, sent_before}
