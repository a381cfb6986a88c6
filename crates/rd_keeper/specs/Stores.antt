-- Stores of notes.
use Rattle.std.specs.Prelude.{◌≡◌, Bool, true, false, Result, Err}
use Rattle.sqlite.specs.declared.error.Error.{Error}
use Rattle.sqlite.specs.declared.error.Error.TheVariants.{SqliteFailure}
use Rattle.sqlite.specs.declared.error.ErrorCode.TheVariants.{NotADatabase}
use Rattle.rd_keeper.specs.declared.sql_keeper.Store.{Store}
use Rattle.rd_keeper.specs.declared.sql_keeper.Store.TheVariants.{File, Memory, Refused}

-- a store that couldn't be opened, or is of another make
abbrev pub is_refused : Store → Bool
is_refused (File conn) = false
is_refused (Memory conn) = false
is_refused Refused = true

-- a call on such a store fails as one on no database, and it stays such a store
pub record FailsStore {A : Type 0} (result : Result A Error) (before after : Store) : Type 0 where
  pub failed : is_refused before ≡ true → result ≡ Err (SqliteFailure NotADatabase)
  pub stays : is_refused after ≡ is_refused before
