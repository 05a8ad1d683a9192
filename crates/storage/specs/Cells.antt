-- A slot's sixteen words, and the state that they say.
use Rattle.std.specs.Prelude.{ℕ, suc, ◌+◌, Bool, cond, not, List, [], ◌∷◌, get_or, set, eqb}
use Rattle.inbox.specs.declared.Inbox.{Inbox}
use Rattle.storage.specs.Layout.{cell_base}
use Rattle.storage.specs.declared.Cell.{Cell}
use Rattle.storage.specs.declared.Listener.{Listener}
use Rattle.storage.specs.declared.Connection.{Connection}
use Rattle.storage.specs.declared.State.{State}
use Rattle.storage.specs.declared.State.TheVariants.{Closed, Unbound, Bound, Listening, Connected}

-- the words of slot i, by name
unfoldable pub cell_at : List ℕ → ℕ → Cell
cell_at w i =
    record {
      generation = get_or w (cell_base i + 0) 0;
      tag = get_or w (cell_base i + 1) 0;
      name = get_or w (cell_base i + 2) 0;
      backlog = get_or w (cell_base i + 3) 0;
      head = get_or w (cell_base i + 4) 0;
      pending = get_or w (cell_base i + 5) 0;
      peer = get_or w (cell_base i + 6) 0;
      inbox_closed = get_or w (cell_base i + 7) 0;
      outbox_closed = get_or w (cell_base i + 8) 0;
      byte = get_or w (cell_base i + 9) 0;
      written_total = get_or w (cell_base i + 10) 0;
      read_total = get_or w (cell_base i + 11) 0;
      first = get_or w (cell_base i + 12) 0;
      items = get_or w (cell_base i + 13) 0;
      waits = get_or w (cell_base i + 14) 0;
      place = get_or w (cell_base i + 15) 0;
    }

abbrev pub words_of : Cell → List ℕ
words_of k =
    k.generation ∷ k.tag ∷ k.name ∷ k.backlog ∷ k.head ∷ k.pending ∷ k.peer ∷ k.inbox_closed ∷ k.outbox_closed ∷ k.byte ∷ k.written_total ∷ k.read_total ∷ k.first
    ∷ k.items ∷ k.waits ∷ k.place ∷ []

-- vs stored from b + k on
abbrev pub puts : List ℕ → ℕ → ℕ → List ℕ → List ℕ
puts l b k [] = l
puts l b k (v ∷ vs) = puts (set l (b + k) v) b (suc k) vs

unfoldable pub store_at : List ℕ → ℕ → Cell → List ℕ
store_at w i k = puts w (cell_base i) 0 (words_of k)

-- ── The state that a cell says ──

abbrev pub listener_of : Cell → Listener
listener_of k = record { name = k.name; backlog = k.backlog; head = k.head; pending = k.pending }

abbrev pub connection_of : Cell → Connection
connection_of k =
    record {
      peer = record { 0 = k.peer };
      inbox = record { head = k.byte; written_total = k.written_total; read_total = k.read_total; first = k.first; items = k.items };
      inbox_closed = not (eqb k.inbox_closed 0);
      outbox_closed = not (eqb k.outbox_closed 0);
      waits = k.waits;
      place = k.place;
    }

-- a tag that no state has is read as closed
unfoldable pub state_of : Cell → State
state_of k =
    cond (eqb k.tag 1) Unbound
    (cond (eqb k.tag 2) (Bound k.name)
    (cond (eqb k.tag 3) (Listening (listener_of k))
    (cond (eqb k.tag 4) (Connected (connection_of k))
    Closed)))

-- ── The cell of a state: a field that the state does not have is 0 ──

abbrev pub plain_cell : (generation tag name : ℕ) → Cell
plain_cell g t m =
    record {
      generation = g;
      tag = t;
      name = m;
      backlog = 0;
      head = 0;
      pending = 0;
      peer = 0;
      inbox_closed = 0;
      outbox_closed = 0;
      byte = 0;
      written_total = 0;
      read_total = 0;
      first = 0;
      items = 0;
      waits = 0;
      place = 0;
    }

abbrev pub listening_cell : ℕ → Listener → Cell
listening_cell g l =
    record {
      generation = g;
      tag = 3;
      name = l.name;
      backlog = l.backlog;
      head = l.head;
      pending = l.pending;
      peer = 0;
      inbox_closed = 0;
      outbox_closed = 0;
      byte = 0;
      written_total = 0;
      read_total = 0;
      first = 0;
      items = 0;
      waits = 0;
      place = 0;
    }

abbrev pub flag : Bool → ℕ
flag b = cond b 1 0

abbrev pub connected_cell : ℕ → Connection → Cell
connected_cell g c =
    record {
      generation = g;
      tag = 4;
      name = 0;
      backlog = 0;
      head = 0;
      pending = 0;
      peer = c.peer.0;
      inbox_closed = flag c.inbox_closed;
      outbox_closed = flag c.outbox_closed;
      byte = c.inbox.head;
      written_total = c.inbox.written_total;
      read_total = c.inbox.read_total;
      first = c.inbox.first;
      items = c.inbox.items;
      waits = c.waits;
      place = c.place;
    }

unfoldable pub cell_of : ℕ → State → Cell
cell_of g Closed = plain_cell g 0 0
cell_of g Unbound = plain_cell g 1 0
cell_of g (Bound m) = plain_cell g 2 m
cell_of g (Listening l) = listening_cell g l
cell_of g (Connected c) = connected_cell g c

-- a connection with another inbox
abbrev pub with_inbox : Connection → Inbox → Connection
with_inbox k q = record { peer = k.peer; inbox = q; inbox_closed = k.inbox_closed; outbox_closed = k.outbox_closed; waits = k.waits; place = k.place }
