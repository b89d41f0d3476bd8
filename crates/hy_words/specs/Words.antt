-- What the words of the command line ask for.
use Rattle.std.specs.Prelude.{◌≡◌, ◌≤◌, ℕ, Bool, false, List, [], ◌∷◌, Option, Some, None, Result, Ok, Err, codes, if◌then◌else◌}
use Rattle.hy_base.specs.Results.{◌>>=◌}
use Rattle.hy_base.specs.Shape.{IsShape}
use Rattle.hy_base.specs.declared.fault.Cause.{Cause}
use Rattle.hy_base.specs.declared.fault.Cause.TheVariants.{BadKey, BadWord}
use Rattle.hy_base.specs.declared.limits.TheConstants.{MAX_COUNT, MAX_F, MAX_K, MAX_MADE}
use Rattle.hy_record.specs.Key.{is_cell}
use Rattle.hy_text.specs.Line.{first_word, later_words}
use Rattle.hy_text.specs.Slot.{end_of, key_word, number_of}
use Rattle.hy_text.specs.Table.{value_named}
use Rattle.hy_words.specs.Given.{given_of, is_option}
use Rattle.hy_words.specs.declared.command.Command.{Command}
use Rattle.hy_words.specs.declared.command.Command.TheVariants.{OnText, Make, Vectors, Meta, Cloud, OnStore}
use Rattle.hy_words.specs.declared.command.StoreCommand.{StoreCommand}
use Rattle.hy_words.specs.declared.command.StoreCommand.TheVariants as stores
use Rattle.hy_words.specs.declared.command.TextCommand.TheVariants as texts
use Rattle.hy_words.specs.declared.limits.TheConstants.{CLIENT_ARRIVALS, COLLECT_ARRIVALS, MAX_FIRST_PORT, MAX_PORT, MAX_SEED, SERVER_ARRIVALS}
use Rattle.hy_words.specs.declared.name.Name.{Name}
use Rattle.hy_words.specs.declared.name.Name.TheVariants as names
use Rattle.hy_words.specs.declared.request.Request.{Request}

-- the word that a command's name is
abbrev pub name_word : Name → List ℕ
name_word names.Replay = codes "replay"
name_word names.Check = codes "check"
name_word names.Keep = codes "keep"
name_word names.Make = codes "make"
name_word names.Vectors = codes "vectors"
name_word names.Meta = codes "meta"
name_word names.Cloud = codes "cloud"
name_word names.Put = codes "put"
name_word names.Get = codes "get"
name_word names.Delete = codes "delete"
name_word names.Collect = codes "collect"

-- the names of all commands
abbrev pub all_names : List Name
all_names =
    names.Replay ∷ names.Check ∷ names.Keep ∷ names.Make ∷ names.Vectors ∷ names.Meta ∷ names.Cloud
    ∷ names.Put ∷ names.Get ∷ names.Delete ∷ names.Collect ∷ []

-- the number of the option, or the usual one where it is not given
abbrev pub number_or : ℕ → Option ℕ → ℕ
number_or usual (Some number) = number
number_or usual None = usual

-- a command without operands
abbrev pub alone : Command → List (List ℕ) → Result Command Cause
alone command words = end_of words >>= λ _. Ok command

-- the seed and the count of a schedule that is to be made
unfoldable pub make_of : List (List ℕ) → Result Command Cause
make_of words =
    number_of 0 MAX_SEED (first_word words) >>= λ seed.
    number_of 0 MAX_MADE (first_word (later_words words)) >>= λ events.
    end_of (later_words (later_words words)) >>= λ _.
    Ok (Make seed events)

-- the number of the call that is to fail
unfoldable pub keep_of : List (List ℕ) → Result Command Cause
keep_of words =
    number_of 0 MAX_COUNT (first_word words) >>= λ stop.
    end_of (later_words words) >>= λ _.
    Ok (OnText (texts.Keep stop))

-- a port up to this one
abbrev pub port_of : ℕ → List ℕ → Result ℕ Cause
port_of last word = number_of 1 last word

-- the port of a server, and how many arrivals it takes
unfoldable pub served_of : List (List ℕ) → Result (ℕ × ℕ) Cause
served_of words =
    given_of words >>= λ given.
    port_of MAX_PORT (first_word given.operands) >>= λ port.
    end_of (later_words given.operands) >>= λ _.
    Ok (port, number_or SERVER_ARRIVALS given.arrivals)

-- whether a compare-and-swap key would be put or deleted
abbrev pub is_misplaced : StoreCommand → List ℕ → Bool
is_misplaced stores.Put key = is_cell key
is_misplaced stores.Get key = false
is_misplaced stores.Delete key = is_cell key
is_misplaced stores.Collect key = false

-- the key, where the command may name it
abbrev pub placed_key : StoreCommand → List ℕ → Result (List ℕ) Cause
placed_key command key = if is_misplaced command key then Err BadKey else Ok key

-- the key that the word spells, where it is no option
unfoldable pub key_for : StoreCommand → List ℕ → Result (List ℕ) Cause
key_for command word =
    if is_option word then Err BadWord else (key_word word >>= λ key. placed_key command key)

-- the store and the key, with so many arrivals where the option gives no number
unfoldable pub request_of : StoreCommand → ℕ → List (List ℕ) → Result Request Cause
request_of command usual words =
    given_of words >>= λ given.
    number_of 0 MAX_F (first_word given.operands) >>= λ f.
    number_of 1 MAX_K (first_word (later_words given.operands)) >>= λ k.
    port_of MAX_PORT (first_word (later_words (later_words given.operands))) >>= λ meta.
    port_of MAX_FIRST_PORT (first_word (later_words (later_words (later_words given.operands)))) >>= λ clouds.
    key_for command (first_word (later_words (later_words (later_words (later_words given.operands))))) >>= λ key.
    end_of (later_words (later_words (later_words (later_words (later_words given.operands))))) >>= λ _.
    Ok (record { f = f; k = k; meta = meta; clouds = clouds; key = key; arrivals = number_or usual given.arrivals })

-- a command on a key of a store
abbrev pub on_store : StoreCommand → ℕ → List (List ℕ) → Result Command Cause
on_store command usual words =
    request_of command usual words >>= λ request. Ok (OnStore command request)

-- the command of a name, of the words behind it
abbrev pub command_by : Name → List (List ℕ) → Result Command Cause
command_by names.Replay words = alone (OnText texts.Replay) words
command_by names.Check words = alone (OnText texts.Check) words
command_by names.Keep words = keep_of words
command_by names.Make words = make_of words
command_by names.Vectors words = alone Vectors words
command_by names.Meta words = served_of words >>= λ served. Ok (Meta served.0 served.1)
command_by names.Cloud words = served_of words >>= λ served. Ok (Cloud served.0 served.1)
command_by names.Put words = on_store stores.Put CLIENT_ARRIVALS words
command_by names.Get words = on_store stores.Get CLIENT_ARRIVALS words
command_by names.Delete words = on_store stores.Delete CLIENT_ARRIVALS words
command_by names.Collect words = on_store stores.Collect COLLECT_ARRIVALS words

-- the command that the words ask for
abbrev pub command_of : List (List ℕ) → Result Command Cause
command_of words = value_named name_word all_names (first_word words) >>= λ name. command_by name (later_words words)

-- ---- ranges

-- a port up to this one
pub record IsPort (last port : ℕ) : Type 0 where
  pub some : 1 ≤ port
  pub within : port ≤ last

-- the store and its ports are within their limits, and no option was taken as the key
pub record IsRequest (request : Request) : Type 0 where
  pub shape : IsShape request.f request.k
  pub meta : IsPort MAX_PORT request.meta
  pub clouds : IsPort MAX_FIRST_PORT request.clouds
  pub key : is_option request.key ≡ false

-- the numbers of a command are within their limits, and it may name its key
abbrev pub IsInRange : Command → Type 0
IsInRange (OnText command) = Unit {0}
IsInRange (Make seed events) = (seed ≤ MAX_SEED) × (events ≤ MAX_MADE)
IsInRange Vectors = Unit {0}
IsInRange (Meta port arrivals) = IsPort MAX_PORT port
IsInRange (Cloud port arrivals) = IsPort MAX_PORT port
IsInRange (OnStore command request) = IsRequest request × (is_misplaced command request.key ≡ false)
