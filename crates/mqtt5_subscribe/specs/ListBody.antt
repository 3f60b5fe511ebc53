-- This file serves the logic alone: the body of a packet with a list as its writer makes it.
use Rattle.std.specs.Prelude.{ℕ, ◌&&◌, Bool, List, [], length, Option}
use Rattle.mqtt5_base.specs.Grammar.{Entry, Found, Field, Step}
use Rattle.mqtt5_base.specs.Fields.{repeated}
use Rattle.mqtt5_base.specs.Layout.{Written, block_fits, listed_fit, fits_var_int, body_bytes}
use Rattle.mqtt5_subscribe.specs.Rows.{listed_row}
use Rattle.mqtt5_subscribe.specs.Lists.{listed_packet}

-- the bytes, which are the same whether a list may have no items or not
abbrev pub list_body : List Entry → Field → List Step → ℕ → Option Found → List Written → List ℕ
list_body table first others id p items =
    body_bytes (listed_row table [] first others) (listed_packet 0 id p items)

-- the properties, each item and the length can be written
abbrev pub list_body_fits : List Entry → Field → List Step → Option Found → List Written → Bool
list_body_fits table first others p items =
    block_fits table p
    && (listed_fit (repeated first others) items
    && fits_var_int (length (list_body table first others 0 p items)))
