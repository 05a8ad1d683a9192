-- All of the model's definitions under one name, for the proofs here and above.
pub use Rattle.rules.specs.Table.{Group, Inbox, State, Slot, closed, Table, vacant, fresh, at, put, handle, slot_of, handle_at}
unfoldable pub use Rattle.rules.specs.Table.{is_open, is_live, state_of, first, is_free, free_slot, no_slot, new_handle, same, has_name, holds, holder, become, give, enter, leave}
pub use Rattle.rules.specs.Inbox.{nothing}
unfoldable pub use Rattle.rules.specs.Inbox.{is_nil, all_items, append, group, others, up_to, moved, nearer, rest}
pub use Rattle.rules.specs.Outcome.{Call, Outcome, refuse, answer, registry}
unfoldable pub use Rattle.rules.specs.Outcome.{refuse_if, open_one}
unfoldable pub use Rattle.rules.specs.Connecting.{do_socket, do_bind, do_listen, do_accept, is_full, connected, reach, do_connect}
pub use Rattle.rules.specs.Moving.{Policy}
unfoldable pub use Rattle.rules.specs.Moving.{handed, released, flags_of, drained, drain, room, send, do_send}
pub use Rattle.rules.specs.Ending.{Closing}
unfoldable pub use Rattle.rules.specs.Ending.{close_ends, do_shutdown, close_wakes, kept, queued, close_all, do_close, has_room, ready}
unfoldable pub use Rattle.rules.specs.Run.{on_live, on_name, shuts_read, shuts_write, run, after, in_range, admission, entry}
