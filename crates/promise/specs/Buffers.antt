-- What the buffer has behind the map decides nothing but 11, and what a call says and does to the map is the same in every buffer that is long enough. So a
-- host may read the map anew for each call, into a buffer of any length.
--     Alike st st'        two states with the same map, of the same length, and the same journal; behind the map the buffers may differ, and be of different
--                         lengths
--     TooShort st c       the call says 11: the buffer, or what a map may have at most, has no room for the object
--     BytesBehind         the check answers the same for both; and so does every call, and leaves alike states, unless one of the buffers is too short for it
use Rattle.std.specs.Prelude.{Err}
use Rattle.refusals.specs.declared.Refusal.TheVariants.{NoRoom}
use Rattle.std.specs.Prelude.{◌≡◌, ◌⊎◌}
use Rattle.numbers.specs.Bytes.{Bytes}
use Rattle.accept.specs.Verdicts.{verdict}
use Rattle.promise.specs.Runs.{State, Call, edited, outcome, step, map_of}

pub record Alike (st st' : State) : Type 0 where
  pub used : st'.used ≡ st.used
  pub map : map_of st' ≡ map_of st
  pub journal : st'.journal ≡ st.journal

abbrev pub TooShort : State → Call → Type 0
TooShort st c = (outcome st c).said ≡ edited (Err NoRoom)

pub record BytesBehind : Type 0 where
  pub check : (st st' : State) → Alike st st' → verdict st'.map st'.used ≡ verdict st.map st.used
  pub call : (st st' : State) (c : Call) → Bytes st.map → Bytes st'.map → Alike st st'
      → (((outcome st' c).said ≡ (outcome st c).said) × Alike (step st c) (step st' c)) ⊎ (TooShort st c ⊎ TooShort st' c)
