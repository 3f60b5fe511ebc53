-- What the proofs of crates above may cite of these: ids in use within a limit, and the ids in use with dup of their publishes.
pub use Rattle.mqtt5_inflight.proofs.Within.{get_insert_same, Fits, fits, no_ids, IsUsed, with_used, without, none_used, within_fits, get_insert_other}
pub use Rattle.mqtt5_inflight.proofs.Maps.{get-map_values}
pub use Rattle.mqtt5_inflight.proofs.Parts.{is_sent, is_kept, with_slot, map_to, above, FreeFor, free_first, free_then, whole_map}
pub use Rattle.mqtt5_inflight.proofs.Counts.{len_used, len_free, len_removed, requests_len}
pub use Rattle.mqtt5_inflight.proofs.Marked.{again_twice, fits_again, len_again, get_again, again_insert, again_remove, by_id_again}
