pub mod ChannelRules
