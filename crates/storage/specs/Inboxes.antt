-- A push into the inbox of slot i of the lent storage: its three rings are as `Pushes` says, and all else stays.
use Rattle.std.specs.Prelude.{ℕ, ◌≡◌, List}
use Rattle.std.proofs.Math.Seq.{paste}
use Rattle.inbox.specs.Promise.{Pushes}
use Rattle.inbox.specs.declared.Inbox.{Inbox}
use Rattle.inbox.specs.declared.Pushed.{Pushed}
use Rattle.storage.specs.Layout.{part, places_base, ring_base, tokens_base}
use Rattle.storage.specs.Rows.{Store}

pub record PushesAt (n c i : ℕ) (s s' : Store) (buf items : List ℕ) (q : Inbox) (r : Pushed) : Type 0 where
  pub pushes : Pushes (part (ring_base c i) c s.bytes) (part (ring_base c i) c s'.bytes) (part (places_base n i) 256 s.words) (part (places_base n i) 256 s'.words)
      (part (tokens_base i) 256 s.tokens) (part (tokens_base i) 256 s'.tokens) buf items q r
  pub in_words : s'.words ≡ paste s.words (places_base n i) (part (places_base n i) 256 s'.words) 256
  pub in_bytes : s'.bytes ≡ paste s.bytes (ring_base c i) (part (ring_base c i) c s'.bytes) c
  pub in_tokens : s'.tokens ≡ paste s.tokens (tokens_base i) (part (tokens_base i) 256 s'.tokens) 256
